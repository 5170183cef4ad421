-- The numbers of refusals and layers.
use Rattle.std.specs.Prelude.{ℕ}
use Rattle.field.specs.declared.refusal.Refusal.{Refusal}
use Rattle.field.specs.declared.refusal.Refusal.TheVariants as refusal
use Rattle.field.specs.declared.fault.Layer.{Layer}
use Rattle.field.specs.declared.fault.Layer.TheVariants as layer

-- 1 to 17: refused for the input; 21 to 26: for the state of the case
abbrev pub number_of : Refusal → ℕ
number_of refusal.CutShort = 1
number_of refusal.TagNotDue = 2
number_of refusal.WrongLength = 3
number_of refusal.WrongEdition = 4
number_of refusal.TooManyOperations = 5
number_of refusal.ThreadTooHigh = 6
number_of refusal.UnknownKind = 7
number_of refusal.NeedlessAddress = 8
number_of refusal.InitialRule = 9
number_of refusal.DependenceRule = 10
number_of refusal.SourceRule = 11
number_of refusal.UnknownCode = 12
number_of refusal.LawlessTable = 13
number_of refusal.NoSuchOperation = 14
number_of refusal.MemoryTooShort = 15
number_of refusal.IncompleteOrder = 16
number_of refusal.DocketTooLong = 17
number_of refusal.CaseEnded = 21
number_of refusal.PremiseFails = 22
number_of refusal.PairRecorded = 23
number_of refusal.NoCycle = 24
number_of refusal.NotSerialization = 25
number_of refusal.NotSerial = 26

-- 1 the field, 2 the record or table, 3 the docket
abbrev pub layer_number : Layer → ℕ
layer_number layer.Field = 1
layer_number layer.Record = 2
layer_number layer.Docket = 3

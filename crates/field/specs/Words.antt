-- What refusals, layers and faults say in words.
use Rattle.std.specs.Prelude.{ℕ, List, ◌++◌, codes, decimal}
use Rattle.field.specs.declared.refusal.Refusal.{Refusal}
use Rattle.field.specs.declared.refusal.Refusal.TheVariants as refusal
use Rattle.field.specs.declared.fault.Layer.{Layer}
use Rattle.field.specs.declared.fault.Layer.TheVariants as layer
use Rattle.field.specs.declared.fault.Fault.{Fault}
use Rattle.field.specs.Numbers.{number_of}

-- why something was refused
abbrev pub refusal_text : Refusal → List ℕ
refusal_text refusal.CutShort = codes "a field must stand here, and its bytes are not all there"
refusal_text refusal.TagNotDue = codes "a field with another tag is due here"
refusal_text refusal.WrongLength = codes "the tag wants another length"
refusal_text refusal.WrongEdition = codes "the record's edition is not 01"
refusal_text refusal.TooManyOperations = codes "there is room for 32 operations only"
refusal_text refusal.ThreadTooHigh = codes "threads go up to 8"
refusal_text refusal.UnknownKind = codes "kinds go from 1 to 4"
refusal_text refusal.NeedlessAddress = codes "a fence or a branch has no address"
refusal_text refusal.InitialRule = codes "thread 0 has only stores, one to an address"
refusal_text refusal.DependenceRule = codes "a dependence is on an earlier operation of the same thread"
refusal_text refusal.SourceRule = codes "a load saw a store to its address, and nothing else has a source"
refusal_text refusal.UnknownCode = codes "table entries go from 0 to 2, and book codes from 1 to 3"
refusal_text refusal.LawlessTable = codes "the table lets pass what every rule book keeps"
refusal_text refusal.NoSuchOperation = codes "no operation has this number"
refusal_text refusal.MemoryTooShort = codes "the memory for writing is too short"
refusal_text refusal.IncompleteOrder = codes "the order does not name each operation once"
refusal_text refusal.DocketTooLong = codes "the docket is longer than 4096 bytes"
refusal_text refusal.CaseEnded = codes "the case has its verdict already"
refusal_text refusal.PremiseFails = codes "a premise of the claim does not hold"
refusal_text refusal.PairRecorded = codes "the pair is recorded already"
refusal_text refusal.NoCycle = codes "no operation is before itself"
refusal_text refusal.NotSerialization = codes "the order is no serialization"
refusal_text refusal.NotSerial = codes "the case is not serial, so it has no order"

-- who found it: a record or a table is called the record
abbrev pub layer_text : Layer → List ℕ
layer_text layer.Field = codes "field"
layer_text layer.Record = codes "record"
layer_text layer.Docket = codes "docket"

-- the number of the refusal, the byte, the layer, and the reason
abbrev pub fault_text : Fault → List ℕ
fault_text e = codes "refused " ++ (decimal (number_of e.refusal) ++ (codes " at byte " ++ (decimal e.byte ++ (codes ", found in the " ++ (layer_text e.layer ++ (codes ": " ++ refusal_text e.refusal))))))

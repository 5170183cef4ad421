-- One tag byte, two length bytes (high byte first), and that many body bytes.
use Rattle.std.specs.Prelude.{ℕ, ◌+◌, ◌*◌, Bool, cond, not, ◌&&◌, List, length, take, drop, Ok, Err, Result, ◌==◌, nat_le, slice_index}
use Rattle.field.specs.declared.refusal.Refusal.TheVariants as refusal
use Rattle.field.specs.declared.fault.Layer.{Layer}
use Rattle.field.specs.declared.fault.Layer.TheVariants as layer
use Rattle.field.specs.declared.fault.Fault.{Fault}
use Rattle.field.specs.Faults.{fault}

-- the length that the second and the third byte tell
abbrev pub told : List ℕ → ℕ
told s = slice_index s 1 * 256 + slice_index s 2

-- a field stands at the front, and all of it is there
abbrev pub whole : List ℕ → Bool
whole s = nat_le 3 (length s) && nat_le (3 + told s) (length s)

-- its body
abbrev pub body_of : List ℕ → List ℕ
body_of s = take (told s) (drop 3 s)

-- the body, where a field with this tag and this length is due; what is not cut short is judged by the layer that asks
abbrev pub expected : List ℕ → (tag size : ℕ) → Layer → Result (List ℕ) Fault
expected s tag size y =
    cond (not (whole s)) (Err (fault refusal.CutShort layer.Field))
    (cond (not (slice_index s 0 == tag)) (Err (fault refusal.TagNotDue y))
    (cond (not (told s == size)) (Err (fault refusal.WrongLength y))
    (Ok (body_of s))))

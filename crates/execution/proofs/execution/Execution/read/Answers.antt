use mir.Facts.{Fits-lt-pow}
use Rattle.std.proofs.lemmas.Result.{err_from_is_err_and}
use Rattle.room.specs.Held.{held}
use Rattle.execution.proofs.Accepted.{record_formed, record_bytes}
use Rattle.execution.proofs.Promised.{refused_taken, refused_same, accepted_taken, accepted_same}
use Rattle.execution.proofs.execution.Execution.read.Goals as goal

pub returns-in_err-listing : goal.returns-in_err-listing
returns-in_err-listing c =
    let e = c.in_err-listing.field-0.0 in
    let h = c.in_err-listing.ensures in
    let s = c.args.bytes.now in
    let p = err_from_is_err_and c.from_residual.result c.from_residual.ensures.1 in
    rw (p.1, p.2) (record { taken = refused_taken s c.args.self.now e h.told; same_bytes = tt; same_execution = refused_same s c.args.self.now e h.told; near = h.near })

pub invariant_of-self : goal.invariant_of-self
invariant_of-self c = record { formed = record_formed c.args.bytes.now _ c.in_ok-listing.ensures.told }

pub returns : goal.returns
returns c =
    let l = c.in_ok-listing.listing in
    let h = c.in_ok-listing.ensures in
    let s = c.args.bytes.now in
    record { taken = accepted_taken s c.args.self.now _ h.told; same_bytes = record_bytes s (held l) h.told (λ i. Fits-lt-pow (c.type_inv.bytes i)); same_execution = accepted_same s (held l) h.told; near = tt }

use Rattle.std.proofs.Common.{◌<◌, ◌≢◌, length, arith, get_or-set_other, get_or-set_same, rules, below_more}
use Rattle.serialization.proofs.places.places.Goals as goal

pub loop-a-preserved : goal.loop-a-preserved
loop-a-preserved c = (
  search rules,
  below_more _ _
      (λ k h. let ne : k ≢ c.loop-a.a = omega arith in rw get_or-set_other (c.loop-a.invariant.1 k h))
      (let lt : c.loop-a.a < length c.loop-a.at = omega arith in rw get_or-set_same c.place.ensures),
)

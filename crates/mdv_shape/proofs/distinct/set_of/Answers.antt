use Rattle.std.proofs.Common.{◌≡◌, Bool, true, false, not, sym, ◌∙◌, arith}
use Rattle.std.proofs.lemmas.Grind.{common_steps}
use Rattle.std.specs.BTreeSet.{contains}
use Rattle.std.specs.Ordering.{nat_cmp}
use Rattle.mdv_keys.proofs.Any.{there_more}
use Rattle.mdv_shape.proofs.Sets.{none_twice, once_more, stands_twice}
use Rattle.mdv_shape.proofs.distinct.set_of.Goals as goal

is_there : (a b : Bool) → a ≡ not b → a ≡ false → b ≡ true
is_there a true is off = cc
is_there a false is off = cc

is_new : (a b : Bool) → a ≡ not b → a ≡ true → b ≡ false
is_new a true is on = cc
is_new a false is on = cc

pub loop-number-init : goal.loop-number-init
loop-number-init c = (none_twice, λ n. grind (arith, common_steps))

pub returns-then-not-branch-clause-distinct : goal.returns-then-not-branch-clause-distinct
returns-then-not-branch-clause-distinct c =
    let there = sym (c.loop-number.invariant.1 _) ∙ is_there c.in_ok-insert.field-0 (contains nat_cmp c.loop-number.set _) c.in_ok-insert.ensures.added c.if-not-branch.true in
    (λ never. cc (never), λ distinct. absurd (stands_twice c.args.numbers.now c.loop-number.number-index 0 c.loop-number-test.true there distinct))

pub loop-number-preserved : goal.loop-number-preserved
loop-number-preserved c =
    let new = sym (c.loop-number.invariant.1 _) ∙ is_new c.in_ok-insert.field-0 (contains nat_cmp c.loop-number.set _) c.in_ok-insert.ensures.added c.if-not-branch.false in (
      once_more c.args.numbers.now c.loop-number.number-index 0 c.loop-number-test.true new c.loop-number.invariant.0,
      λ q. there_more c.args.numbers.now c.loop-number.number-index 0 q (contains nat_cmp c.loop-number.set q) (contains nat_cmp c.insert.new.self q) c.loop-number-test.true (c.loop-number.invariant.1 q) (c.in_ok-insert.ensures.updates.0 q),
    )

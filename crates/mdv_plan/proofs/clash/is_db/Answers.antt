use Rattle.std.proofs.Common.{◌≡◌, true, subst}
use Rattle.mdv_name.specs.declared.slice_lines.SliceAt.{SliceAt}
use Rattle.mdv_plan.proofs.clash.is_db.Goals as goal

pub returns-in-Some : goal.returns-in-Some
returns-in-Some c = (
  λ db. record { at = c.in-Some.at; has = c.in-Some.ensures.value; db = db },
  λ is. subst (λ (a : SliceAt). a.db ≡ true) (c.requires.once c.args.slice is.at c.in-Some.at is.has c.in-Some.ensures.value) is.db,
)

pub returns-in-None : goal.returns-in-None
returns-in-None c = (λ test. cc, λ is. absurd (c.in-None.ensures.none is.at is.has))

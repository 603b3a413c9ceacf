use Rattle.std.proofs.Common.{sym, ◌∙◌, subst}
use Rattle.std.proofs.lemmas.Bool.{false≢true}
use Rattle.mdv_config.specs.Below.{SliceAt}
use Rattle.mdv_config.specs.Table.{IsPartIn}
use Rattle.mdv_config.proofs.rows.is_part.Goals as goal

pub returns-else-is_part_in : goal.returns-else-is_part_in
returns-else-is_part_in c =
    let component = c.args.component.now in
    (λ test. absurd (false≢true (sym c.if-is_part_in.false ∙ test)), λ is. absurd (false≢true (c.if-is_part_in.ensures.1 (subst (λ (a : SliceAt). IsPartIn a c.args.depth component) (c.requires.once c.args.slice is.at c.in-Some.at is.has c.in-Some.ensures.value) is.lies))))

pub returns-in-None : goal.returns-in-None
returns-in-None c = (λ test. cc, λ is. absurd (c.in-None.ensures.none is.at is.has))

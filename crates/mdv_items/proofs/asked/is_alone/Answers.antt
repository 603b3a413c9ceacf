use Rattle.std.proofs.Common.{sym, ◌∙◌, ap}
use Rattle.mdv_items.specs.Items.{is_only}
use Rattle.mdv_items.proofs.Single.{is_none_alone, other_word}
use Rattle.mdv_items.proofs.asked.is_alone.Goals as goal

pub returns-then-eq : goal.returns-then-eq
returns-then-eq c =
    let first = c.in-Some.ensures.word.words in
    let same = sym c.eq.ensures ∙ c.if-eq.true in
    is_none_alone c.args.word.now c.args.line.now c.in-Some.first.now c.in-Some.rest.now first same
    c.first_word-then-eq.result c.first_word-then-eq.ensures.word c.first_word-then-eq.ensures.none c.is_none.result c.is_none.ensures

pub returns-else-eq : goal.returns-else-eq
returns-else-eq c = c.if-eq.false ∙ sym (other_word c.args.word.now c.args.line.now c.in-Some.first.now _ (sym c.eq.ensures ∙ c.if-eq.false) c.in-Some.ensures.word.words)

pub returns-in-None : goal.returns-in-None
returns-in-None c = sym (ap (is_only c.args.word.now) c.in-None.ensures.none)

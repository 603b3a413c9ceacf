use Rattle.std.proofs.Common.{ℕ, List, Option, None, sym, subst, ◌∙◌, ap}
use Rattle.mdv_text.specs.Words.{words}
use Rattle.mdv_tab.specs.declared.entry.Entry.{Entry}
use Rattle.mdv_tab.specs.Gather.{IsReadWith}
use Rattle.mdv_tab.proofs.SetOf.{no_entry, some_words}
use Rattle.mdv_tab.proofs.group.Group.read.Goals as goal

pub returns-in-None : goal.returns-in-None
returns-in-None c = λ ascii.
    let first = ap words (sym c.as_slice-text.ensures.value) ∙ c.in-Some.ensures.word.words in
    let none = subst (λ (o : Option Entry). IsReadWith c.set_of-set.result (words c.as_slice-text.result.now) o) c.in-None.is c.in_ok-entry.ensures in
    (some_words _ _ _ first, no_entry _ _ _ c.set_of-set.result first c.set_of-set.ensures (subst (λ (l : List ℕ). IsReadWith c.set_of-set.result (words l) None) c.as_slice-text.ensures.value none))

use Rattle.std.proofs.Common.{rules, ◌≡◌, None, Some, Option, MatchOption, sym}
use borrow.Author.Tests.{tests}
use Rattle.std.specs.Option.{option_map}
use Rattle.std.proofs.lemmas.Iterator.{YieldsList-from_slice}
use Rattle.std.proofs.lemmas.Iterator.Search.{find_from_yields_List}
use Rattle.mdv_tab.specs.declared.entry.Entry.{Entry}
use Rattle.mdv_words.specs.Listed.{is_listed as spec_is_listed}
use Rattle.mdv_words.proofs.listed.entry_listed.Goals as goal

-- what is found is the first, if there is one
found : {A : Type 0} (v : A → Entry) (first : Option Entry) (r : Option A) → option_map v r ≡ first → MatchOption r (first ≡ None) (λ e. first ≡ Some (v e))
found v first None is = sym is
found v first (Some e) is = sym is

pub returns : goal.returns
returns c = found _ _ _ (find_from_yields_List (spec_is_listed c.args.number) _ _ _ c.find.ensures.ran (YieldsList-from_slice c.args.entries.now cc) (λ x b q k. search (rules, tests)))

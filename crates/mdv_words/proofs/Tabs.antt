-- What an entry of replicas says that a `tab` block has is in its bounds.
use Rattle.std.proofs.Common.{◌≡◌, inl, inr, ℕ, Bool, true, false, if◌then◌else◌, Option, None, Some, All, sym, subst, List, [], ◌∷◌}
use Rattle.std.specs.Prelude.{IfSome}
use Rattle.std.specs.List.{find}
use Rattle.std.proofs.lemmas.List.Elements.{All-append, All-cons, All-head, All-nil, All-tail}
use Rattle.mdv_tab.specs.declared.entry.Entry.{Entry}
use Rattle.mdv_tab.specs.Text.{Gives, IsEntry, IsTab, ReadsGroups, groups, group_words}
use Rattle.mdv_name.specs.Lines.{lines}
use Rattle.mdv_words.specs.Listed.{AreFormed, AreInForm, Replicas, is_listed, said_by}
use Rattle.mdv_words.proofs.Entries.{KeepsEntry, entry_keeps}
use Rattle.mdv_words.proofs.Form.{count_formed, length_formed}

entry_kept : (ws : List (List ℕ)) (e : Entry) → IsEntry ws e → KeepsEntry e
entry_kept ws e is = subst (λ (o : Option Entry). IfSome o KeepsEntry) is.form (entry_keeps is.set is.parts)

given_kept : (g : List (List ℕ)) (es : List Entry) → Gives g es → All KeepsEntry es
given_kept g es (ascii, inl none) = subst (All KeepsEntry) (sym none.1) (All-nil KeepsEntry)
given_kept g es (ascii, inr one) = subst (All KeepsEntry) (sym one.2) (All-cons KeepsEntry one.0 [] (entry_kept (group_words g) one.0 one.1) (All-nil KeepsEntry))

groups_kept : (gs : List (List (List ℕ))) (es : List Entry) → ReadsGroups gs es → All KeepsEntry es
groups_kept [] es is = subst (All KeepsEntry) (sym is) (All-nil KeepsEntry)
groups_kept (g ∷ gs) es (here, rest, given, more, is) = subst (All KeepsEntry) (sym is) (All-append KeepsEntry here rest (given_kept g here given) (groups_kept gs rest more))

said_formed : (found : Option Entry) → IfSome found KeepsEntry → (r : Replicas) → said_by found ≡ Some r → AreFormed r
said_formed (Some (Entry.Replicas number options slices)) keeps r is =
    let formed : AreFormed (record { slices = slices; count = _; blocks = _ }) = (keeps.0, count_formed options.count keeps.1.0, length_formed options.blocks keeps.1.1) in
    subst (λ (o : Option Replicas). IfSome o AreFormed) is formed
said_formed None keeps r is = absurd (cc (is))
said_formed (Some other) keeps r is = absurd (cc (is))

here_or : (here : Bool) (e : Entry) (rest : Option Entry) → KeepsEntry e → IfSome rest KeepsEntry → IfSome (if here then Some e else rest) KeepsEntry
here_or true e rest keeps behind = keeps
here_or false e rest keeps behind = behind

find_kept : (number : ℕ) (es : List Entry) → All KeepsEntry es → IfSome (find (is_listed number) es) KeepsEntry
find_kept number [] all = tt
find_kept number (e ∷ es) all = here_or (is_listed number e) e (find (is_listed number) es) (All-head KeepsEntry e es all) (find_kept number es (All-tail KeepsEntry e es all))

pub entries_are_in_form : (text : List ℕ) (entries : List Entry) → IsTab text entries → AreInForm entries
entries_are_in_form text entries tab number r is = said_formed (find (is_listed number) entries) (find_kept number entries (groups_kept (groups (lines text)) entries tab.read)) r is

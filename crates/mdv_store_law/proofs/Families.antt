-- Families of tables: what one has of another's changes.
use Rattle.std.proofs.Common.{◌≡◌, ◌⊎◌, inl, inr, ◌||◌, ℕ, zero, suc, ◌<◌, Bool, true, false, List, [], ◌∷◌, ◌++◌, length, slice_index_or, refl, sym, ◌∙◌, ap, subst, append_assoc, Option, Some, None, All, Contains, arith}
use Rattle.std.proofs.lemmas.List.Elements.{All-cons, All-head, All-tail, All-contains}
use Rattle.std.specs.List.{list_any}
use Rattle.mdv_store_law.specs.Below.{IsBelow, Geometry, Table, settled}
use Rattle.mdv_store_law.specs.Changes.{Change}
use Rattle.mdv_store_law.specs.Log.{Version, with_asked, answered, Extends, IsSameOrSettled, IsMade, AreMade, IsRising, IsDescended, IsHeld}

pub extends_itself : (changes : List Change) → Extends changes changes
extends_itself changes = record { more = []; is = refl }

pub extends_more : (a b c : List Change) → Extends a b → Extends b c → Extends a c
extends_more a b c first second = record {
  more = first.more ++ second.more;
  is = first.is ∙ ap (λ (l : List Change). first.more ++ l) second.is ∙ sym (append_assoc first.more second.more c);
}

pub extends_asked : (asked : Option Change) (before : List Change) → Extends (with_asked asked before) before
extends_asked None before = extends_itself before
extends_asked (Some change) before = record { more = change ∷ []; is = refl }

-- a change of places is over once
pub settled_more : (a b c : Table) → IsSameOrSettled a b → IsSameOrSettled b c → IsSameOrSettled a c
settled_more a b c (inl same) is = subst (λ (t : Table). IsSameOrSettled t c) same is
settled_more a b c (inr over) (inl same) = inr (same ∙ over)
settled_more a b c (inr over) (inr twice) = inr (twice ∙ ap settled over)

-- a table is what its changes made, once its change of places is over too
made_settled : (g : Geometry) (changes : List Change) (table : Table) → AreMade g changes table → AreMade g changes (settled table)
made_settled g [] table made = (made.0, ap settled made.1)
made_settled g (change ∷ before) table (old, new, made, is, more) = (old, new, made, is, settled_more new table (settled table) more (inr refl))

-- a table is what its changes made, if the one that it comes from is
pub made_next : (g : Geometry) (asked : Option Change) (before : List Change) (old new : Table) → AreMade g before old → IsMade g asked old new → AreMade g (with_asked asked before) new
made_next g None before old new made (inl same) = subst (λ (t : Table). AreMade g before t) (sym same) made
made_next g None before old new made (inr over) = subst (λ (t : Table). AreMade g before t) (sym over) (made_settled g before old made)
made_next g (Some change) before old new made is = (old, new, made, is, inl refl)

pub contains_first : (v : Version) (older : List Version) → Contains (v ∷ older) v
contains_first v older = (0, omega arith, refl)

pub contains_behind : (v w : Version) (older : List Version) → Contains older w → Contains (v ∷ older) w
contains_behind v w older is = (suc is.0, omega (arith, is.1), is.2)

pub contains_cases : (v w : Version) (older : List Version) → Contains (v ∷ older) w → (v ≡ w) ⊎ Contains older w
contains_cases v w older is = by is.0 is.1 is.2 where
  by : (k : ℕ) → k < length (v ∷ older) → slice_index_or (v ∷ older) k w ≡ w → (v ≡ w) ⊎ Contains older w
  by zero lt same = inl same
  by (suc k) lt same = inr (k, omega arith, same)

-- a table whose mark isn't below that of one whose write was answered has its changes
pub extends_written : (family : List Version) (v w : Version) → IsRising family → IsDescended family → Contains family v → Contains family w → w.is_written ≡ true → (IsBelow v.mark w.mark → ⊥) → Extends v.changes w.changes
extends_written [] v w rising descended has other written not = absurd (omega (arith, has.1))
extends_written (x ∷ older) v w rising descended has other written not = elim (contains_cases x v older has) [
  | inl here ↦ elim (contains_cases x w older other) [
    | inl there ↦ subst (λ (y : Version). Extends v.changes y.changes) (sym here ∙ there) (extends_itself v.changes)
    | inr behind ↦ subst (λ (y : Version). Extends y.changes w.changes) here (All-contains (λ (y : Version). y.is_written ≡ true → Extends x.changes y.changes) older w descended.0 behind written)
  ]
  | inr behind ↦ elim (contains_cases x w older other) [
    | inl there ↦ absurd (not (subst (λ (y : Version). IsBelow v.mark y.mark) there (All-contains (λ (y : Version). IsBelow y.mark x.mark) older v rising.0 behind)))
    | inr both ↦ extends_written older v w rising.1 descended.1 behind both written not
  ]
]

-- the newest table has the changes of each one whose write was answered
pub newest_extends : (v w : Version) (older : List Version) → IsDescended (v ∷ older) → Contains (v ∷ older) w → w.is_written ≡ true → Extends v.changes w.changes
newest_extends v w older descended has written = elim (contains_cases v w older has) [
  | inl here ↦ subst (λ (y : Version). Extends v.changes y.changes) here (extends_itself v.changes)
  | inr behind ↦ All-contains (λ (y : Version). y.is_written ≡ true → Extends v.changes y.changes) older w descended.0 behind written
]

pub or_true : (b : Bool) → b || true ≡ true
or_true true = refl
or_true false = refl

-- one table whose write was answered makes the family firm
pub written_firm : (family : List Version) (w : Version) → Contains family w → w.is_written ≡ true → list_any (λ v. v.is_written) family ≡ true
written_firm [] w has written = absurd (omega (arith, has.1))
written_firm (v ∷ older) w has written = elim (contains_cases v w older has) [
  | inl here ↦ (let is : v.is_written ≡ true = ap (λ (x : Version). x.is_written) here ∙ written in rw is)
  | inr behind ↦ (let rest = written_firm older w behind written in rw rest (or_true v.is_written))
]

pub firm_answered : (family : List Version) → list_any (λ v. v.is_written) family ≡ true → list_any (λ v. v.is_written) (answered family) ≡ true
firm_answered [] is = is
firm_answered (v ∷ older) is = refl

-- once the newest table's write is answered
pub answered_rising : (family : List Version) → IsRising family → IsRising (answered family)
answered_rising [] is = is
answered_rising (v ∷ older) is = is

pub answered_descended : (family : List Version) → IsDescended family → IsDescended (answered family)
answered_descended [] is = is
answered_descended (v ∷ older) is = is

pub answered_made : (g : Geometry) (family : List Version) → All (λ v. AreMade g v.changes v.table) family → All (λ v. AreMade g v.changes v.table) (answered family)
answered_made g [] made = made
answered_made g (v ∷ older) made =
    let P = λ (w : Version). AreMade g w.changes w.table in
    All-cons P (record v { is_written = true }) older (All-head P v older made) (All-tail P v older made)

pub answered_held : (family : List Version) (told : List Change) → IsHeld family told → IsHeld (answered family) told
answered_held [] told held = held
answered_held (v ∷ older) told held = elim (contains_cases v held.by older held.one_of) [
  | inl here ↦ record {
    by = record v { is_written = true };
    one_of = contains_first (record v { is_written = true }) older;
    written = refl;
    has = subst (λ (w : Version). Extends w.changes told) (sym here) held.has;
  }
  | inr behind ↦ record {
    by = held.by;
    one_of = contains_behind (record v { is_written = true }) held.by older behind;
    written = held.written;
    has = held.has;
  }
]

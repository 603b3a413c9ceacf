-- What deeds and events say of one key's database.
use Rattle.std.proofs.Common.{inl, inr, List, [], ◌∷◌, Option, Some, None, Contains, refl, sym, ◌∙◌, subst, arith}
use Rattle.mdv_run_law.specs.Below.{Change, Changed, Created, Deed, Deleted, Key, Saw, Wrote, same_key}
use Rattle.mdv_shelf.proofs.Blocks.{both_ways}
use Rattle.mdv_store_law.specs.Log.{changes_of}
use Rattle.mdv_store_law.specs.Part.{IsPart}
use Rattle.mdv_store_law.proofs.Parts.{part_before}
use Rattle.mdv_volumes.specs.Happening.{deed_of}
use Rattle.mdv_volumes.specs.HistoryLaws.{database_deeds}
use Rattle.mdv_databases.proofs.Lists.{key_itself}
use Rattle.mdv_volumes.proofs.Lists.{contains_behind, contains_first, first_or_behind}

-- what a part has the whole has
pub part_contains : {X : Type 0} (part whole : List X) (x : X) → IsPart part whole → Contains part x → Contains whole x
part_contains [] whole x is has = absurd (omega (arith, has.1))
part_contains (y ∷ part) [] x is has = absurd is
part_contains {X} (y ∷ part) (z ∷ whole) x (inl is) has = elim (first_or_behind y x part has) [
  | inl same ↦ subst (λ (w : X). Contains (z ∷ whole) w) (sym is.0 ∙ same) (contains_first z whole)
  | inr behind ↦ contains_behind z x whole (part_contains part whole x is.1 behind)
]
part_contains (y ∷ part) (z ∷ whole) x (inr is) has = contains_behind z x whole (part_contains (y ∷ part) whole x is has)

-- the changes of a part are a part of those of the whole
pub part_changes : (part whole : List (Option Change)) → IsPart part whole → IsPart (changes_of part) (changes_of whole)
part_changes [] whole is = tt
part_changes (x ∷ part) [] is = absurd is
part_changes (x ∷ part) (y ∷ whole) (inl is) = subst (λ (o : Option Change). IsPart (changes_of (x ∷ part)) (changes_of (o ∷ whole))) is.0 (both x (part_changes part whole is.1)) where
  both : (x : Option Change) → IsPart (changes_of part) (changes_of whole) → IsPart (changes_of (x ∷ part)) (changes_of (x ∷ whole))
  both None is = is
  both (Some change) is = inl (refl, is)
part_changes (x ∷ part) (y ∷ whole) (inr is) = before y (part_changes (x ∷ part) whole is) where
  before : (y : Option Change) → IsPart (changes_of (x ∷ part)) (changes_of whole) → IsPart (changes_of (x ∷ part)) (changes_of (y ∷ whole))
  before None is = is
  before (Some change) is = part_before (changes_of (x ∷ part)) (change ∷ []) (changes_of whole) is

pub change_has : (asked : List (Option Change)) (change : Change) → Contains asked (Some change) → Contains (changes_of asked) change
change_has [] change has = absurd (omega (arith, has.1))
change_has (x ∷ asked) change has = elim (first_or_behind x (Some change) asked has) [
  | inl same ↦ subst (λ (o : Option Change). Contains (changes_of (o ∷ asked)) change) (sym same) (contains_first change (changes_of asked))
  | inr rest ↦ behind x (change_has asked change rest)
] where
  behind : (x : Option Change) → Contains (changes_of asked) change → Contains (changes_of (x ∷ asked)) change
  behind None has = has
  behind (Some other) has = contains_behind other change (changes_of asked) has

module _ (key : Key) where
  module _ (deeds : List Deed) where
    own_deed : (asked : Option Change) → Contains (database_deeds key (deed_of key asked ∷ deeds)) asked
    own_deed None = let is = key_itself key in rw is (contains_first None (database_deeds key deeds))
    own_deed (Some change) = let is = key_itself key in rw is (contains_first (Some change) (database_deeds key deeds))

    deed_behind : (asked : Option Change) (deed : Deed) → Contains (database_deeds key deeds) asked → Contains (database_deeds key (deed ∷ deeds)) asked
    deed_behind asked (Created other) has = elim (both_ways (same_key key other)) [ inl does ↦ rw does (contains_behind None asked (database_deeds key deeds) has) | inr never ↦ rw never has ]
    deed_behind asked (Changed other change) has = elim (both_ways (same_key key other)) [ inl does ↦ rw does (contains_behind (Some change) asked (database_deeds key deeds) has) | inr never ↦ rw never has ]
    deed_behind asked (Deleted other) has = has
    deed_behind asked (Wrote other volume at blocks) has = has
    deed_behind asked (Saw other volume at blocks) has = has

  -- a creation or a change of the key's is one of its database
  pub deed_has : (deeds : List Deed) (asked : Option Change) → Contains deeds (deed_of key asked) → Contains (database_deeds key deeds) asked
  deed_has [] asked has = absurd (omega (arith, has.1))
  deed_has (deed ∷ deeds) asked has = elim (first_or_behind deed (deed_of key asked) deeds has) [
    | inl same ↦ subst (λ (d : Deed). Contains (database_deeds key (d ∷ deeds)) asked) (sym same) (own_deed deeds asked)
    | inr rest ↦ deed_behind deeds asked deed (deed_has deeds asked rest)
  ]

  module _ (part whole : List Deed) where
    both_deeds : (deed : Deed) → IsPart (database_deeds key part) (database_deeds key whole) → IsPart (database_deeds key (deed ∷ part)) (database_deeds key (deed ∷ whole))
    both_deeds (Created other) is = elim (both_ways (same_key key other)) [ inl does ↦ rw does (inl (refl, is)) | inr never ↦ rw never is ]
    both_deeds (Changed other change) is = elim (both_ways (same_key key other)) [ inl does ↦ rw does (inl (refl, is)) | inr never ↦ rw never is ]
    both_deeds (Deleted other) is = is
    both_deeds (Wrote other volume at blocks) is = is
    both_deeds (Saw other volume at blocks) is = is

    deed_before : (deed : Deed) → IsPart (database_deeds key part) (database_deeds key whole) → IsPart (database_deeds key part) (database_deeds key (deed ∷ whole))
    deed_before (Created other) is = elim (both_ways (same_key key other)) [ inl does ↦ rw does (part_before (database_deeds key part) (None ∷ []) (database_deeds key whole) is) | inr never ↦ rw never is ]
    deed_before (Changed other change) is = elim (both_ways (same_key key other)) [
      | inl does ↦ rw does (part_before (database_deeds key part) (Some change ∷ []) (database_deeds key whole) is)
      | inr never ↦ rw never is
    ]
    deed_before (Deleted other) is = is
    deed_before (Wrote other volume at blocks) is = is
    deed_before (Saw other volume at blocks) is = is

  -- the database's deeds of a part are a part of those of the whole
  pub part_deeds : (part whole : List Deed) → IsPart part whole → IsPart (database_deeds key part) (database_deeds key whole)
  part_deeds [] whole is = tt
  part_deeds (deed ∷ part) [] is = absurd is
  part_deeds (deed ∷ part) (other ∷ whole) (inl is) = subst (λ (d : Deed). IsPart (database_deeds key (deed ∷ part)) (database_deeds key (d ∷ whole))) is.0 (both_deeds part whole deed (part_deeds part whole is.1))
  part_deeds (deed ∷ part) (other ∷ whole) (inr is) = deed_before (deed ∷ part) whole other (part_deeds (deed ∷ part) whole is)

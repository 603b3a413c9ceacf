-- Where among the events of a history one of them happens: the one that tells a write or a read.
use Rattle.std.proofs.Common.{◌≡◌, inl, inr, ⊎_elim, ℕ, List, [], ◌∷◌, ◌++◌, Option, Some, None, map, Contains, refl, sym, ◌∙◌, ap, subst, append_assoc}
use Rattle.std.proofs.lemmas.List.Elements.{Contains-append_cases}
use Rattle.mdv_base.specs.declared.name.Key.{Key}
use Rattle.mdv_name.specs.declared.geometry.Geometry.{Geometry}
use Rattle.mdv_store_law.specs.Changes.{Change}
use Rattle.mdv_store_law.specs.Log as log
use Rattle.mdv_volumes.specs.Happening.{IsCourse, MayHappen, deed_of, told_by}
use Rattle.mdv_volumes.specs.History.{Acknowledges, Boots, Changed, Crashes, Created, Creation, Deed, Deleted, Deletes, Event, History, OfDatabase, OfVolume, Reads, Saw, Shows, Stops, Unsettles, Wrote, history_after, history_after_all}
use Rattle.mdv_volumes.proofs.Lists.{course_rest, first_or_behind}
use Rattle.mdv_theorem.proofs.Lines.{never_in}

-- the event is one of these, between those
pub record IsAt (e : Event) (es : List Event) : Type 0 where
  pub first : List Event
  pub later : List Event
  pub is : es ≡ first ++ e ∷ later

at_first : (e : Event) (es : List Event) → IsAt e (e ∷ es)
at_first e es = record { first = []; later = es; is = refl }

at_behind : (other e : Event) (es : List Event) → IsAt e es → IsAt e (other ∷ es)
at_behind other e es at = record { first = other ∷ at.first; later = at.later; is = ap (λ (l : List Event). other ∷ l) at.is }

-- one of a stretch among others
pub at_among : (e : Event) (es first own later : List Event) → es ≡ first ++ (own ++ later) → (at : IsAt e own) → es ≡ (first ++ at.first) ++ e ∷ (at.later ++ later)
at_among e es first own later is at =
    is ∙ ap (λ (l : List Event). first ++ (l ++ later)) at.is ∙ ap (λ (l : List Event). first ++ l) (append_assoc at.first (e ∷ at.later) later) ∙ sym (append_assoc first at.first (e ∷ (at.later ++ later)))

-- it may happen there, and those behind it where they do
pub may_at : (g : Geometry) (h : History) (e : Event) (es first later : List Event) → es ≡ first ++ e ∷ later → IsCourse g h es → MayHappen g (history_after_all h first) e × IsCourse g (history_after (history_after_all h first) e) later
may_at g h e es first later is course =
    let rest = course_rest history_after (MayHappen g) h first (e ∷ later) (subst (IsCourse g h) is course) in (rest.0, rest.1)

-- blocks that were written, or read
abbrev pub IsOfBlocks : Deed → Type 0
IsOfBlocks (Created key) = ⊥
IsOfBlocks (Changed key change) = ⊥
IsOfBlocks (Deleted key) = ⊥
IsOfBlocks (Wrote key volume at blocks) = Unit {0}
IsOfBlocks (Saw key volume at blocks) = Unit {0}

-- the event that tells them, at this place of what isn't told
abbrev pub telling_of : ℕ → Deed → Event
telling_of place (Created key) = Stops
telling_of place (Changed key change) = Stops
telling_of place (Deleted key) = Stops
telling_of place (Wrote key volume at blocks) = Acknowledges place key volume at blocks
telling_of place (Saw key volume at blocks) = Shows place key volume at blocks

-- that event is one of these
pub record IsToldAt (deed : Deed) (es : List Event) : Type 0 where
  pub place : ℕ
  pub at : IsAt (telling_of place deed) es

told_first : (place : ℕ) (deed other : Deed) (e : Event) (es : List Event) → e ≡ telling_of place other → other ≡ deed → IsToldAt deed (e ∷ es)
told_first place deed other e es is same = record { place = place; at = subst (λ (f : Event). IsAt (telling_of place deed) (f ∷ es)) (sym (is ∙ ap (telling_of place) same)) (at_first (telling_of place deed) es) }

told_behind : (deed : Deed) (e : Event) (es : List Event) → IsToldAt deed es → IsToldAt deed (e ∷ es)
told_behind deed e es told = record { place = told.place; at = at_behind e (telling_of told.place deed) es told.at }

-- no event of a database tells them
never_deed : (key : Key) (deed : Deed) (asked : Option Change) → IsOfBlocks deed → deed_of key asked ≡ deed → ⊥
never_deed key deed None of same = subst IsOfBlocks (sym same) of
never_deed key deed (Some change) of same = subst IsOfBlocks (sym same) of

never_of : (key : Key) (deed : Deed) (told : List (Option Change)) → IsOfBlocks deed → Contains (map (deed_of key) told) deed → ⊥
never_of key deed [] of has = never_in deed has
never_of key deed (asked ∷ told) of has = ⊎_elim (never_deed key deed asked of) (never_of key deed told of) (first_or_behind (deed_of key asked) deed (map (deed_of key) told) has)

pub told_at : (deed : Deed) (es : List Event) → IsOfBlocks deed → Contains (told_by es) deed → IsToldAt deed es
told_at deed [] of has = absurd (never_in deed has)
told_at deed (Creation key identity ∷ es) of has = told_behind deed (Creation key identity) es (told_at deed es of has)
told_at deed (OfDatabase key identity e ∷ es) of has = elim (Contains-append_cases (map (deed_of key) (log.tells e)) (told_by es) deed has) [
  | inl here ↦ absurd (never_of key deed (log.tells e) of here)
  | inr behind ↦ told_behind deed (OfDatabase key identity e) es (told_at deed es of behind)
]
told_at deed (OfVolume key volume e ∷ es) of has = told_behind deed (OfVolume key volume e) es (told_at deed es of has)
told_at deed (Reads key volume at blocks ∷ es) of has = told_behind deed (Reads key volume at blocks) es (told_at deed es of has)
told_at deed (Acknowledges place key volume at blocks ∷ es) of has = elim (first_or_behind (Wrote key volume at blocks) deed (told_by es) has) [
  | inl here ↦ told_first place deed (Wrote key volume at blocks) (Acknowledges place key volume at blocks) es refl here
  | inr behind ↦ told_behind deed (Acknowledges place key volume at blocks) es (told_at deed es of behind)
]
told_at deed (Shows place key volume at blocks ∷ es) of has = elim (first_or_behind (Saw key volume at blocks) deed (told_by es) has) [
  | inl here ↦ told_first place deed (Saw key volume at blocks) (Shows place key volume at blocks) es refl here
  | inr behind ↦ told_behind deed (Shows place key volume at blocks) es (told_at deed es of behind)
]
told_at deed (Deletes place key ∷ es) of has = elim (first_or_behind (Deleted key) deed (told_by es) has) [
  | inl here ↦ absurd (subst IsOfBlocks (sym here) of)
  | inr behind ↦ told_behind deed (Deletes place key) es (told_at deed es of behind)
]
told_at deed (Boots key up ∷ es) of has = told_behind deed (Boots key up) es (told_at deed es of has)
told_at deed (Unsettles key drive ∷ es) of has = told_behind deed (Unsettles key drive) es (told_at deed es of has)
told_at deed (Stops ∷ es) of has = told_behind deed Stops es (told_at deed es of has)
told_at deed (Crashes ∷ es) of has = told_behind deed Crashes es (told_at deed es of has)

-- Where no change adds places on a slice from which an earlier one dropped some, no place is formatted again that a version dropped.
use Rattle.std.proofs.Common.{◌≡◌, ◌⊎◌, inl, inr, ⊎_elim, ℕ, zero, suc, ◌+◌, ◌*◌, ◌==◌, ◌&&◌, ◌||◌, Bool, true, false, not, if◌then◌else◌, List, [], ◌∷◌, ◌++◌, flat_map, length, slice_index_or, Option, Some, None, All, Contains, refl, sym, ◌∙◌, ap, subst, arith}
use Rattle.std.proofs.lemmas.Bool.{and_parts}
use Rattle.std.proofs.lemmas.List.Elements.{Contains-append_cases, Contains-get_or}
use Rattle.std.proofs.lemmas.List.Folds.{Any-from_list_any, list_any-append}
use Rattle.mdv_shelf.proofs.Blocks.{both_ways}
use Rattle.mdv_name.proofs.Finding.{same_slice-equal}
use Rattle.mdv_run_law.specs.Below.{Change, Geometry, SliceName, Table, Version}
use Rattle.mdv_run_law.specs.Lives.{DropsFrom}
use Rattle.mdv_store_law.specs.Anew.{IsFresh}
use Rattle.mdv_store_law.specs.Below.{Never, Place, last_of, same_slice, since_after}
use Rattle.mdv_store_law.specs.Changes.{AddListed, AddPlaces, DropPlaces, FirstPlace, IsMadeBy, OfPlan, is_on, list_less, places_from, places_on}
use Rattle.mdv_store_law.specs.Log as log
use Rattle.mdv_store_law.specs.Log.{IsLog, IsMade, IsPlaceable, IsRising, Log, answered, begins_in, log_after, log_after_all, since_of}
use Rattle.mdv_keeping.proofs.Places.{lists_stay}
use Rattle.mdv_store_law.proofs.Families.{contains_cases}
use Rattle.mdv_volumes.specs.Happening.{MayBeFound}
use Rattle.mdv_volumes.proofs.Found.{newest_found, older_found, only_found}
use Rattle.mdv_volumes.proofs.Lists.{contains_behind, contains_first, first_or_behind}

-- Lists of places.
or_second : (a b : Bool) → b ≡ true → a || b ≡ true
or_second true b is = refl
or_second false b is = is

or_first : (a b : Bool) → a ≡ true → a || b ≡ true
or_first true b is = refl
or_first false b is = absurd (cc (is))

-- a place that was listed still is, or lies on a slice from which places go
less_or_gone : (slices : List SliceName) (places : List Place) (p : Place) → begins_in places p ≡ true → (begins_in (list_less slices places) p ≡ true) ⊎ Contains slices p.slice
less_or_gone slices [] p begins = absurd (cc (begins))
less_or_gone slices (q ∷ places) p begins = by (is_on slices q) refl (same_slice q.slice p.slice && (q.start == p.start)) refl begins (less_or_gone slices places p) where
  test : Bool
  test = same_slice q.slice p.slice && (q.start == p.start)

  of_slice : is_on slices q ≡ true → same_slice q.slice p.slice && (q.start == p.start) ≡ true → Contains slices p.slice
  of_slice on is =
      let found = Any-from_list_any (λ (s : SliceName). same_slice q.slice s) slices on in
      let named : q.slice ≡ found.1 = same_slice-equal q.slice found.1 found.4 in
      let same : q.slice ≡ p.slice = same_slice-equal q.slice p.slice (and_parts (same_slice q.slice p.slice) (q.start == p.start) is).0 in
      subst (λ (s : SliceName). Contains slices s) (sym named ∙ same) (found.0, found.2, found.3)

  by : (on : Bool) → is_on slices q ≡ on → (b : Bool) → (same_slice q.slice p.slice && (q.start == p.start)) ≡ b → b || begins_in places p ≡ true → (begins_in places p ≡ true → (begins_in (list_less slices places) p ≡ true) ⊎ Contains slices p.slice)
      → (begins_in (if not on then q ∷ list_less slices places else list_less slices places) p ≡ true) ⊎ Contains slices p.slice
  by true on true is has rest = inr (of_slice on is)
  by true on false is has rest = rest has
  by false on true is has rest = inl (or_first (same_slice q.slice p.slice && (q.start == p.start)) (begins_in (list_less slices places) p) is)
  by false on false is has rest = ⊎_elim (λ still. inl (or_second (same_slice q.slice p.slice && (q.start == p.start)) (begins_in (list_less slices places) p) still)) (λ gone. inr gone) (rest has)

more_begins : (places more : List Place) (p : Place) → begins_in places p ≡ true → begins_in (places ++ more) p ≡ true
more_begins places more p begins = list_any-append (λ (q : Place). same_slice q.slice p.slice && (q.start == p.start)) places more ∙ or_first (begins_in places p) (begins_in more p) begins

-- what slices get lies on them
from_on : (slice : SliceName) (blocks k count : ℕ) (p : Place) → Contains (places_from slice blocks k count) p → p.slice ≡ slice
from_on slice blocks k zero p has = absurd (omega (arith, has.1))
from_on slice blocks k (suc n) p has = elim (first_or_behind (record { slice = slice; start = 16 + k * blocks; blocks = blocks }) p (places_from slice blocks (k + 1) n) has) [
  | inl here ↦ ap (λ (q : Place). q.slice) (sym here)
  | inr behind ↦ from_on slice blocks (k + 1) n p behind
]

pub places_lie : (slices : List SliceName) (count blocks : ℕ) (p : Place) → Contains (flat_map (places_on count blocks) slices) p → Contains slices p.slice
places_lie [] count blocks p has = absurd (omega (arith, has.1))
places_lie (s ∷ slices) count blocks p has = elim (Contains-append_cases (places_on count blocks s) (flat_map (places_on count blocks) slices) p has) [
  | inl here ↦ subst (λ (t : SliceName). Contains (s ∷ slices) t) (sym (from_on s blocks 0 count p here)) (contains_first s slices)
  | inr behind ↦ contains_behind s p.slice slices (places_lie slices count blocks p behind)
]

pub each_of : {X : Type 0} (P : X → Type 0) (xs : List X) → ((x : X) → Contains xs x → P x) → All P xs
each_of P xs is k d lt = is (slice_index_or xs k d) (Contains-get_or xs k d lt)

-- Of these slices some change has dropped places.
module _ (g : Geometry) (Gone : SliceName → Type 0) where
  -- a change leaves a listed place, or drops it
  kept_or_gone : (change : Change) (old new : Table) → IsMadeBy g change old new → ((s : SliceName) → DropsFrom change s → Gone s) → (p : Place) → begins_in (last_of old.plan.lists) p ≡ true → (begins_in (last_of new.plan.lists) p ≡ true) ⊎ Gone p.slice
  kept_or_gone (OfPlan change) old new made drops p begins = inl (subst (λ (l : _). begins_in (last_of l) p ≡ true) (sym (lists_stay g change old new made.1)) begins)
  kept_or_gone (AddPlaces slices count blocks) old new made drops p begins =
      inl (subst (λ (t : Table). begins_in (last_of t.plan.lists) p ≡ true) (sym made) (more_begins (last_of old.plan.lists) (flat_map (places_on count blocks) slices) p begins))
  kept_or_gone (AddListed number) old new made drops p begins =
      inl (subst (λ (t : Table). begins_in (last_of t.plan.lists) p ≡ true) (sym made.is) (more_begins (last_of old.plan.lists) (flat_map (places_on made.count made.blocks) made.slices) p begins))
  kept_or_gone (DropPlaces slices) old new made drops p begins = elim (less_or_gone slices (last_of old.plan.lists) p begins) [
    | inl still ↦ inl (subst (λ (t : Table). begins_in (last_of t.plan.lists) p ≡ true) (sym made) still)
    | inr gone ↦ inr (drops p.slice gone)
  ]
  kept_or_gone FirstPlace old new made drops p begins = inr (drops p.slice tt)

  -- what a written table lists each table that a boot may find lists, or it was dropped
  abbrev pub Kept : List Version → Type 0
  Kept family = (v w : Version) → MayBeFound family v → Contains family w → w.is_written ≡ true → (p : Place) → begins_in (last_of w.table.plan.lists) p ≡ true → (begins_in (last_of v.table.plan.lists) p ≡ true) ⊎ Gone p.slice

  -- what a log's event asks drops places of such slices, and adds none there
  abbrev pub Fits : log.Event → Type 0
  Fits (log.Issued identity) = Unit {0}
  Fits (log.Writing mark None before table) = Unit {0}
  Fits (log.Writing mark (Some change) before table) = (s : SliceName) → DropsFrom change s → Gone s
  Fits log.Written = Unit {0}
  Fits (log.Told which before) = Unit {0}
  Fits (log.Placing places) = (p : Place) → Contains places p → Gone p.slice → ⊥
  Fits log.Clearing = Unit {0}
  Fits log.Gone = Unit {0}

  -- a table that begins to be written
  made_kept : (asked : Option Change) (mark : _) (before : List Change) (old new : Table) → Fits (log.Writing mark asked before new) → IsMade g asked old new → (p : Place) → begins_in (last_of old.plan.lists) p ≡ true → (begins_in (last_of new.plan.lists) p ≡ true) ⊎ Gone p.slice
  made_kept None mark before old new fits (inl same) p begins = inl (subst (λ (t : Table). begins_in (last_of t.plan.lists) p ≡ true) (sym same) begins)
  made_kept None mark before old new fits (inr over) p begins = inl (subst (λ (t : Table). begins_in (last_of t.plan.lists) p ≡ true) (sym over) begins)
  made_kept (Some change) mark before old new fits made p begins = kept_or_gone change old new made fits p begins

  begun_kept : (lg : Log) (mark : _) (asked : Option Change) (before : List Change) (table : Table) → log.MayHappen g lg (log.Writing mark asked before table) → Fits (log.Writing mark asked before table) → Kept lg.family → Kept (log_after lg (log.Writing mark asked before table)).family
  begun_kept lg mark asked before table may fits kept v w found has written p begins = elim (contains_cases new w lg.family has) [
    | inl here ↦ absurd (cc (written, ap (λ (x : Version). x.is_written) here))
    | inr behind ↦ elim (older_found new lg.family v found) [
      | inl own ↦ subst (λ (x : Version). (begins_in (last_of x.table.plan.lists) p ≡ true) ⊎ Gone p.slice) own (next_kept may.1 w behind written p begins)
      | inr older ↦ kept v w older behind written p begins
    ]
  ]
    where
      new : Version
      new = record { mark = mark; table = table; changes = log.with_asked asked before; is_written = false }

      next_kept : log.IsFirst lg.issued lg.family asked before table ⊎ log.IsNext g lg.family asked before table → (w : Version) → Contains lg.family w → w.is_written ≡ true → (p : Place) → begins_in (last_of w.table.plan.lists) p ≡ true
          → (begins_in (last_of table.plan.lists) p ≡ true) ⊎ Gone p.slice
      next_kept (inl first) w has written p begins = absurd (let none : Contains [] w = subst (λ (f : List Version). Contains f w) first.none has in omega (arith, none.1))
      next_kept (inr next) w has written p begins = ⊎_elim (λ old. made_kept asked mark before next.parent.table table fits next.made p old) (λ gone. inr gone) (kept next.parent w (next.one_of, next.not_older) has written p begins)

  -- and one whose write is answered
  written_kept : (family : List Version) → IsRising family → log.IsBegun family → Kept family → Kept (answered family)
  written_kept [] rising begun kept v w found has written p begins = absurd begun
  written_kept (newest ∷ older) rising begun kept v w found has written p begins =
      let now : Version = record newest { is_written = true } in
      let is : v ≡ now = only_found now older v rising refl found in
      subst (λ (x : Version). (begins_in (last_of x.table.plan.lists) p ≡ true) ⊎ Gone p.slice) (sym is) (elim (contains_cases now w older has) [
        | inl here ↦ inl (subst (λ (x : Version). begins_in (last_of x.table.plan.lists) p ≡ true) (sym here) begins)
        | inr behind ↦ kept newest w (newest_found newest older rising) (contains_behind newest w older behind) written p begins
      ])

  pub log_kept : (lg : Log) (e : log.Event) → IsLog g lg → log.MayHappen g lg e → Fits e → Kept lg.family → Kept (log_after lg e).family
  log_kept lg (log.Issued identity) is may fits kept = λ v w found has. absurd (omega (arith, has.1))
  log_kept lg (log.Writing mark asked before table) is may fits kept = begun_kept lg mark asked before table may fits kept
  log_kept lg log.Written is may fits kept = written_kept lg.family is.rising may kept
  log_kept lg (log.Told which before) is may fits kept = kept
  log_kept lg (log.Placing places) is may fits kept = kept
  log_kept lg log.Clearing is may fits kept = kept
  log_kept lg log.Gone is may fits kept = kept

  -- a place that no written table lists was never listed
  never_since : (family : List Version) (p : Place) → ((w : Version) → Contains family w → w.is_written ≡ true → begins_in (last_of w.table.plan.lists) p ≡ true → ⊥) → since_of family p ≡ Never
  never_since [] p none = refl
  never_since (v ∷ older) p none =
      let rest = never_since older p (λ w has. none w (contains_behind v w older has)) in
      elim (both_ways v.is_written) [
        | inl written ↦ elim (both_ways (begins_in (last_of v.table.plan.lists) p)) [
          | inl begins ↦ absurd (none v (contains_first v older) written begins)
          | inr never ↦ rw (written, never) (ap (since_after (length older) false) rest)
        ]
        | inr loose ↦ rw loose rest
      ]

  -- so what is formatted for added places is fresh
  pub log_fresh : (lg : Log) (e : log.Event) → IsLog g lg → log.MayHappen g lg e → Fits e → Kept lg.family → IsFresh lg e
  log_fresh lg (log.Issued identity) is may fits kept = tt
  log_fresh lg (log.Writing mark asked before table) is may fits kept = tt
  log_fresh lg log.Written is may fits kept = tt
  log_fresh lg (log.Told which before) is may fits kept = tt
  log_fresh lg (log.Placing places) is may fits kept = λ k d lt. never_since lg.family (slice_index_or places k d) (λ w has written begins.
      let p : Place = slice_index_or places k d in
      let found : MayBeFound lg.family may.newest = subst (λ (f : List Version). MayBeFound f may.newest) (sym may.is) (newest_found may.newest may.older (subst IsRising may.is is.rising)) in
      elim (kept may.newest w found has written p begins) [
        | inl listed ↦ (let there : begins_in may.olds p ≡ true = subst (λ (l : _). begins_in (last_of l) p ≡ true) may.only listed in let none = may.unlisted k d lt in cc (there, none))
        | inr gone ↦ fits p (Contains-get_or places k d lt) gone
      ])
  log_fresh lg log.Clearing is may fits kept = tt
  log_fresh lg log.Gone is may fits kept = tt

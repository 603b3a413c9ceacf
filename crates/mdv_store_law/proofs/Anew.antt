-- Each log stays one of which no place was formatted again, as long as nothing asks for that.
use Rattle.std.proofs.Common.{◌≡◌, inl, inr, List, [], ◌∷◌, ◌++◌, All, refl, sym, ◌∙◌, ap, true, subst, Option, None, Some, Contains, arith}
use Rattle.std.proofs.lemmas.List.Elements.{All-cons, All-head, All-nil, All-same, All-tail}
use Rattle.mdv_keeping.proofs.Places.{lists_stay}
use Rattle.mdv_store_law.specs.Anew.{HasNoneAgain, IsAnew, IsFresh}
use Rattle.mdv_votes.specs.Family.{raised}
use Rattle.mdv_store_law.specs.Below.{Never, Geometry, Identity, Lists, One, Place, Table, last_of}
use Rattle.mdv_store_law.specs.Changes.{AddListed, AddPlaces, Change, DropPlaces, FirstPlace, OfPlan}
use Rattle.mdv_store_law.specs.Log.{Again, Clearing, Event, Gone, IsAskable, IsCourse, IsIssue, IsMade, Issued, Log, MayHappen, Placing, Told, Version, PlacesStay, Writing, Written, answered, empty_log, log_after, log_after_all, placed_again, since_of}
use Rattle.mdv_store_law.specs.Machine.{AreAll}
use Rattle.mdv_store_law.proofs.Families.{contains_behind, contains_cases, contains_first}
use Rattle.mdv_store_law.proofs.Fates.{never_ends}

pub made_lists : (g : Geometry) (asked : Option Change) (old next : Table) (places : List Place) → IsAskable PlacesStay asked → IsMade g asked old next → old.plan.lists ≡ One places → next.plan.lists ≡ One places
made_lists g None old next places keeps (inl same) one = ap (λ (t : Table). t.plan.lists) same ∙ one
made_lists g None old next places keeps (inr over) one = ap (λ (t : Table). t.plan.lists) over ∙ ap (λ (l : Lists). One (last_of l)) one
made_lists g (Some (OfPlan change)) old next places keeps made one = lists_stay g change old next made.1 ∙ one
made_lists g (Some (AddPlaces slices count blocks)) old next places keeps made one = absurd keeps
made_lists g (Some (AddListed number)) old next places keeps made one = absurd keeps
made_lists g (Some (DropPlaces slices)) old next places keeps made one = absurd keeps
made_lists g (Some FirstPlace) old next places keeps made one = absurd keeps

none_has : (v : Version) → Contains [] v → ⊥
none_has v has = absurd (omega (arith, has.1))

-- an answer changes no table
answered_one : (family : List Version) (places : List Place) → ((v : Version) → Contains family v → v.table.plan.lists ≡ One places) → (v : Version) → Contains (answered family) v → v.table.plan.lists ≡ One places
answered_one [] places each v has = absurd (none_has v has)
answered_one (newest ∷ older) places each v has = elim (contains_cases (record newest { is_written = true }) v older has) [
  | inl here ↦ ap (λ (x : Version). x.table.plan.lists) (sym here) ∙ each newest (contains_first newest older)
  | inr behind ↦ each v (contains_behind newest v older behind)
]

pub anew_after : (g : Geometry) (log : Log) (e : Event) → IsAnew log → MayHappen g log e → IsIssue PlacesStay e → IsAnew (log_after log e)
anew_after g log (Issued identity) anew may is = record { none = refl; lives = refl; places = []; each = λ v has. absurd (none_has v has) }
anew_after g log (Writing mark asked before table) anew (above, inl first) is = record {
  none = anew.none;
  lives = refl;
  places = first.empty.0;
  each = λ v has. elim (contains_cases _ v log.family has) [
    | inl here ↦ ap (λ (x : Version). x.table.plan.lists) (sym here) ∙ ap (λ (t : Table). t.plan.lists) first.empty.1
    | inr behind ↦ absurd (none_has v (subst (λ (f : List Version). Contains f v) first.none behind))
  ];
}
anew_after g log (Writing mark asked before table) anew (above, inr next) is = record {
  none = anew.none;
  lives = refl;
  places = anew.places;
  each = λ v has. elim (contains_cases _ v log.family has) [
    | inl here ↦ ap (λ (x : Version). x.table.plan.lists) (sym here) ∙ made_lists g asked next.parent.table table anew.places is next.made (anew.each next.parent next.one_of)
    | inr behind ↦ anew.each v behind
  ];
}
anew_after g log Written anew may is = record { none = anew.none; lives = anew.lives; places = anew.places; each = answered_one log.family anew.places anew.each }
anew_after g log (Told which before) anew may is = record { none = anew.none; lives = anew.lives; places = anew.places; each = anew.each }
anew_after g log (Placing places) anew may is = absurd is
anew_after g log Clearing anew may is = absurd is
anew_after g log Gone anew may is = absurd (never_ends log.fate anew.lives may)

pub anew_after_all : (g : Geometry) (log : Log) (es : List Event) → IsAnew log → IsCourse g log es → AreAll (IsIssue PlacesStay) es → IsAnew (log_after_all log es)
anew_after_all g log [] anew course are = anew
anew_after_all g log (e ∷ es) anew course are = anew_after_all g (log_after log e) es (anew_after g log e anew course.0 are.0) course.1 are.1

pub empty_anew : IsAnew empty_log
empty_anew = record { none = refl; lives = refl; places = []; each = λ v has. absurd (none_has v has) }

-- a creation that was issued
pub issued_anew : (identity : Identity) → IsAnew (log_after empty_log (Issued identity))
issued_anew identity = record { none = refl; lives = refl; places = []; each = λ v has. absurd (none_has v has) }

-- none was formatted again since a version dropped it
pub none_again : (log : Log) → IsAnew log → HasNoneAgain log
none_again log anew = All-same (λ (a : Again). a.number ≡ 0) log.again [] anew.none (All-nil (λ (a : Again). a.number ≡ 0))

placed_fresh : (family : List Version) (places : List Place) (again : List Again) → All (λ p. since_of family p ≡ Never) places → All (λ (a : Again). a.number ≡ 0) again → All (λ (a : Again). a.number ≡ 0) (placed_again family places ++ again)
placed_fresh family [] again fresh none = none
placed_fresh family (p ∷ places) again fresh none =
    All-cons (λ (a : Again). a.number ≡ 0) (record { place = p; number = raised 0 (since_of family p) }) (placed_again family places ++ again)
    (ap (raised 0) (All-head (λ (q : Place). since_of family q ≡ Never) p places fresh))
    (placed_fresh family places again (All-tail (λ (q : Place). since_of family q ≡ Never) p places fresh) none)

-- so it stays as long as no place is formatted that was listed before
pub none_again_after : (log : Log) (e : Event) → HasNoneAgain log → IsFresh log e → HasNoneAgain (log_after log e)
none_again_after log (Issued identity) none fresh = All-nil (λ (a : Again). a.number ≡ 0)
none_again_after log (Writing mark asked before table) none fresh = none
none_again_after log Written none fresh = none
none_again_after log (Told which before) none fresh = none
none_again_after log (Placing places) none fresh = placed_fresh log.family places log.again fresh none
none_again_after log Clearing none fresh = none
none_again_after log Gone none fresh = none

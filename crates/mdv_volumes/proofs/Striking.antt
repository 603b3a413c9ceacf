-- A history in which a key's current database is over that was free.
use Rattle.std.proofs.Common.{◌≡◌, inl, inr, false, List, [], ◌∷◌, Option, None, Some, Contains, sym, ◌∙◌, ap, subst}
use Rattle.std.proofs.lemmas.List.Elements.{Contains-append_left, Contains-append_right}
use Rattle.mdv_databases.proofs.Creating.{creation_elsewhere, keys, over_none}
use Rattle.mdv_databases.proofs.Lists.{events_elsewhere}
use Rattle.mdv_databases.proofs.Striking.{strike_blank, strike_freed}
use Rattle.mdv_databases.specs.Striking.{IsStruckOf}
use Rattle.mdv_store_law.specs.Log.{Issued, empty_log, is_firm, log_after}
use Rattle.mdv_volumes.specs.Below.{Geometry, Identity, Key, Map, Version, VolId, Tale}
use Rattle.mdv_volumes.specs.Databases.{Database, current_of, log_in, log_of, with_over}
use Rattle.mdv_volumes.specs.Happening.{IsCourse, IsNamed, MayBeFound, MayHappen, begins, issued_by}
use Rattle.mdv_volumes.specs.Histories.{Stands}
use Rattle.mdv_volumes.specs.History.{Acknowledges, Boots, Crashes, Created, Creation, Deletes, Event, History, OfDatabase, OfVolume, Reads, Shows, Stops, Unsettles, databases_after, history_after, history_after_all}
use Rattle.mdv_volumes.specs.Striking.{IsStruck, StrikesGo, struck}
use Rattle.mdv_volumes.proofs.Databases.{is_log_of}
use Rattle.mdv_volumes.proofs.Found.{none_found}
use Rattle.mdv_volumes.proofs.Lists.{contains_first}

module _ (g : Geometry) (h : History) (key : Key) (t : Tale) (stands : Stands g h t) (is : IsStruckOf g h.databases key t) where
  abbrev now : List Database
  now = with_over key h.databases

  -- a boot finds no table of the key
  none_now : (v : Version) → MayBeFound (log_of now key).family v → ⊥
  none_now v found = none_found v (subst (λ (o : Option Database). MayBeFound (log_in o).family v) is.none found)

  unnamed : (volume : VolId) (v : Map) → IsNamed g now key volume v → ⊥
  unnamed volume v named = none_now named.version named.found

  -- and of other keys what it found
  found_before : (other : Key) (v : Version) → MayBeFound (log_of now other).family v → MayBeFound (log_of h.databases other).family v
  found_before other v found = elim (keys key other) [
    | inl same ↦ absurd (none_now v (subst (λ (k : Key). MayBeFound (log_of now k).family v) (sym same) found))
    | inr differ ↦ subst (λ (o : Option Database). MayBeFound (log_in o).family v) (is.others other differ) found
  ]

  named_before : (other : Key) (volume : VolId) (v : Map) → IsNamed g now other volume v → IsNamed g h.databases other volume v
  named_before other volume v named = record { version = named.version; found = found_before other named.version named.found; map = named.map }

  struck_stands : Stands g (struck key h) t
  struck_stands = record {
    databases = is.stand;
    laid = λ other version found. stands.laid other version (found_before other version found);
    apart = λ one other volume beside v w differ named another. stands.apart one other volume beside v w differ (named_before one volume v named) (named_before other beside w another);
    volumes = λ other volume v named. stands.volumes other volume v (named_before other volume v named);
  }

  struck_begun : (identity : Identity) → history_after (struck key h) (Creation key identity) ≡ history_after h (Creation key identity)
  struck_begun identity =
      ap (λ (l : List Database). record (history_after h (Creation key identity)) { databases = record { key = key; identity = identity; log = log_after empty_log (Issued identity); over = false } ∷ l }) (over_none key now is.none)

  pub history_struck : IsStruck g h key t
  history_struck = record {
    stands = struck_stands;
    logs = is_log_of g now t is.stand;
    freed = is.freed;
    databases = record { none = is.none; others = is.others; fresh = is.fresh };
    unnamed = unnamed;
    begin = λ identity fresh. record { fresh = is.fresh identity fresh; free = inl (ap (λ (o : Option Database). is_firm (log_in o)) is.none) };
    begun = struck_begun;
  }

-- a key without a current database
module _ (g : Geometry) (key : Key) where
  stays_one : (h : History) (e : Event) → MayHappen g h e → current_of h.databases key ≡ None → (Contains (begins e) (Created key) → ⊥) → current_of (databases_after h.databases e) key ≡ None
  stays_one h (Creation other identity) may none never = elim (keys other key) [
    | inl same ↦ absurd (never (subst (λ (k : Key). Contains (Created other ∷ []) (Created k)) same (contains_first (Created other) [])))
    | inr differ ↦ creation_elsewhere other identity h.databases key differ ∙ none
  ]
  stays_one h (OfDatabase other identity e) may none never = elim (keys other key) [
    | inl same ↦ absurd (let found = subst (λ (k : Key). current_of h.databases k ≡ Some may.database) same may.current in let none_some = sym none ∙ found in cc none_some)
    | inr differ ↦ events_elsewhere other (e ∷ []) h.databases key differ ∙ none
  ]
  stays_one h (OfVolume other volume e) may none never = none
  stays_one h (Reads other volume at blocks) may none never = none
  stays_one h (Acknowledges place other volume at blocks) may none never = none
  stays_one h (Shows place other volume at blocks) may none never = none
  stays_one h (Deletes place other) may none never = none
  stays_one h (Boots other up) may none never = none
  stays_one h (Unsettles other drive) may none never = none
  stays_one h Stops may none never = none
  stays_one h Crashes may none never = none

  pub stays_none : (h : History) (es : List Event) → IsCourse g h es → current_of h.databases key ≡ None → (Contains (issued_by es) (Created key) → ⊥) → current_of (history_after_all h es).databases key ≡ None
  stays_none h [] course none never = none
  stays_none h (e ∷ es) course none never =
      stays_none (history_after h e) es course.1 (stays_one h e course.0 none (λ has. never (Contains-append_left (begins e) (issued_by es) (Created key) has)))
      (λ has. never (Contains-append_right (begins e) (issued_by es) (Created key) has))

pub strikes_go : StrikesGo
strikes_go = record {
  freed = λ g h key t stands freed. history_struck g h key t stands (strike_freed g h.databases key t stands.databases freed);
  blank = λ g h key d t stands is lives blank. history_struck g h key t stands (strike_blank g h.databases key t stands.databases d is lives blank);
  stays = λ g h key es. stays_none g key h es;
}

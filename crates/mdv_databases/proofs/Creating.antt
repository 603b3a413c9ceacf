-- How all databases go on while one is created.
use Rattle.std.proofs.Common.{◌≡◌, ◌⊎◌, inl, inr, ℕ, Bool, true, false, not, ◌&&◌, cond, List, [], ◌∷◌, Option, None, Some, Ok, Err, Contains, true≢false, refl, sym, ◌∙◌, ap, subst}
use Rattle.std.proofs.lemmas.Bool.{and_left, cases_Bool, cases_eq}
use Rattle.mdv_shelf.specs.Tale.{last}
use Rattle.mdv_shelf.proofs.Everywhere.{last_image}
use Rattle.mdv_store_law.specs.Anew.{IsAnew}
use Rattle.mdv_store_law.proofs.Anew.{anew_after_all, issued_anew}
use Rattle.mdv_store_law.proofs.Issues.{asked_issued}
use Rattle.mdv_standing.specs.Blanking.{MayClear}
use Rattle.mdv_standing.specs.Creating.{issued_log}
use Rattle.mdv_standing.specs.Databases.{is_current, log_in, same_key, with_over}
use Rattle.mdv_standing.specs.Holding.{AreOnce}
use Rattle.mdv_standing.specs.Tracing.{GoesTraced, IsStart}
use Rattle.mdv_standing.proofs.Holding.{begins_holding, none_found, rest_of}
use Rattle.mdv_standing.proofs.Stretches.{none_started}
use Rattle.mdv_store_law.specs.Log.{ChangesAlone, IsCourse, IsLog, Issued, PlacesStay, empty_log}
use Rattle.mdv_store_law.proofs.Logs.{empty_is_log, is_log_after}
use Rattle.mdv_store.specs.Commit.{AnyLog, AnyWorld}
use Rattle.mdv_store.specs.Create.{AreOfCreation, CreateGoes, CreateMoment, IsCreatedTo, IsEnded, MayCreate, MayForm, seats_asked}
use Rattle.mdv_store.specs.declared.creating.CreateFault.TheVariants as unmade
use Rattle.mdv_store.proofs.Sitting.{first_or_behind}
use Rattle.mdv_databases.specs.Below.{Core, CoversWith, Database, Geometry, Identity, IsBlank, IsReadyWith, Key, Log, Opened, Seat, SliceLine, Spells, Tale, current_of, log_of, site_of, spots_of, with_creation}
use Rattle.mdv_databases.specs.Creating.{IsCreation, IsMadeIn, IsUnmadeIn, MayBeTakenAt}
use Rattle.mdv_databases.specs.Going.{GoOn, IsCurrentOf, with_events}
use Rattle.mdv_databases.specs.Lasting.{AreFreed}
use Rattle.mdv_databases.specs.Standing.{AreAnew, AreCurrent, EndsSole, IsFree, Stand}
use Rattle.mdv_databases.proofs.Ended.{issued_sole, lives_after_all}
use Rattle.mdv_databases.proofs.Going.{Gone, go_on, opens}
use Rattle.mdv_databases.proofs.Loose.{over_loose}
use Rattle.mdv_databases.proofs.Lists.{events_here, gone, changed_cases, changed_elsewhere, current_in, current_key, key_differs, key_is, key_itself, key_other, one_current, with_current}

-- two keys, or two identities, are one or differ
pub keys : (a b : Key) → (a ≡ b) ⊎ (a ≡ b → ⊥)
keys a b = elim (cases_Bool (same_key a b)) [ inl same ↦ inl (key_is a b same) | inr never ↦ inr (key_differs a b never) ]

identities : (a b : Identity) → (a ≡ b) ⊎ (a ≡ b → ⊥)
identities a b = elim (cases_eq a.fresh b.fresh) [
  | inl fresh ↦ elim (cases_eq a.number b.number) [
    | inl number ↦ inl (λ i. record { fresh = fresh i; number = number i })
    | inr differ ↦ inr (λ e. differ (ap (λ (x : Identity). x.number) e))
  ]
  | inr differ ↦ inr (λ e. differ (ap (λ (x : Identity). x.fresh) e))
]

abbrev pub shut : Database → Database
shut d = record d { over = true }

-- it was the key's current one, and is over
record IsShut (key : Key) (all : List Database) (x : Database) : Type 0 where
  was : Database
  found : current_of all key ≡ Some was
  is : shut was ≡ x

-- it was there, and wasn't the key's current one
record IsOther (key : Key) (all : List Database) (x : Database) : Type 0 where
  one_of : Contains all x
  another : (d : Database) → current_of all key ≡ Some d → x.identity ≡ d.identity → ⊥

not_none : (d : Database) → None ≡ Some d → ⊥
not_none d e = cc

-- The key's current one is over.
module _ (key : Key) where
  pub over_as : (all : List Database) → with_current key shut all ≡ with_over key all
  over_as [] = refl
  over_as (d ∷ all) = ap (λ (l : List Database). cond (is_current key d) (shut d ∷ all) (d ∷ l)) (over_as all)

  pub over_none : (all : List Database) → current_of all key ≡ None → with_over key all ≡ all
  over_none [] none = refl
  over_none (d ∷ all) none = elim (cases_Bool (is_current key d)) [
    | inl is ↦ absurd (not_none d (sym none ∙ ap (λ (c : Bool). cond c (Some d) (current_of all key)) is))
    | inr isnt ↦
        let later : current_of all key ≡ None = sym (ap (λ (c : Bool). cond c (Some d) (current_of all key)) isnt) ∙ none in
        ap (λ (c : Bool). cond c (shut d ∷ all) (d ∷ with_over key all)) isnt ∙ ap (λ (l : List Database). d ∷ l) (over_none all later)
  ]

  over_cases : (all : List Database) → AreOnce all → (x : Database) → Contains (with_over key all) x → IsShut key all x ⊎ IsOther key all x
  over_cases all once x has = by (current_of all key) refl where
    by : (o : Option Database) → current_of all key ≡ o → IsShut key all x ⊎ IsOther key all x
    by None none = inr (record { one_of = subst (λ (l : List Database). Contains l x) (over_none all none) has; another = λ d found same. not_none d (sym none ∙ found) })
    by (Some d) found = elim (changed_cases key shut (λ y. refl) (λ y. refl) d all once found x (subst (λ (l : List Database). Contains l x) (sym (over_as all)) has)) [
      | inl is ↦ inl (record { was = d; found = found; is = is })
      | inr rest ↦ inr (record { one_of = rest.0; another = λ e its same. rest.1 (same ∙ ap (λ (z : Database). z.identity) (one_current key all e d its found)) })
    ]

  pub over_elsewhere : (other : Key) → (key ≡ other → ⊥) → (all : List Database) → current_of (with_over key all) other ≡ current_of all other
  over_elsewhere other differ all = ap (λ (l : List Database). current_of l other) (sym (over_as all)) ∙ changed_elsewhere key shut (λ d. refl) (λ d. refl) other differ all

-- A creation is begun.
module _ (key : Key) (identity : Identity) (all : List Database) where
  abbrev pub new : Database
  new = record { key = key; identity = identity; log = issued_log identity; over = false }

  pub creation_here : current_of (with_creation key identity all) key ≡ Some new
  creation_here = ap (λ (is : Bool). cond (is && not false) (Some new) (current_of (with_over key all) key)) (key_itself key)

  pub creation_elsewhere : (other : Key) → (key ≡ other → ⊥) → current_of (with_creation key identity all) other ≡ current_of all other
  creation_elsewhere other differ =
      let away = and_left (same_key other key) (not false) (key_other other key (λ same. differ (sym same))) in
      ap (λ (c : Bool). cond c (Some new) (current_of (with_over key all) other)) away ∙ over_elsewhere key other differ all

  pub creation_its : IsCurrentOf (with_creation key identity all) key identity
  creation_its = record { database = new; current = creation_here; as_begun = refl }

  creation_log : log_of (with_creation key identity all) key ≡ issued_log identity
  creation_log = ap log_in creation_here

issued_is_log : (g : Geometry) (identity : Identity) → IsLog g (issued_log identity)
issued_is_log g identity = is_log_after g empty_log (Issued identity) (empty_is_log g) (inl refl)

module _ (g : Geometry) (all : List Database) (key : Key) (identity : Identity) (lines : List SliceLine) (count blocks : ℕ) (t : Tale) (c : IsCreation g all key identity lines count blocks t) where
  abbrev now : List Database
  now = with_creation key identity all

  abbrev seats : List Seat
  seats = seats_asked key identity lines count blocks

  abbrev its_new : Database
  its_new = new key identity all

  once : AreOnce all
  once = (c.stand.worlds (last t) (last_image t)).once

  -- each is the new one, the key's earlier one, or was there
  cases : (P : Database → Type 0) → P its_new → ((d : Database) → current_of all key ≡ Some d → P (shut d)) → ((d : Database) → IsOther key all d → P d) → (x : Database) → Contains now x → P x
  cases P one earlier others x has = elim (first_or_behind its_new x (with_over key all) has) [
    | inl here ↦ subst P here one
    | inr behind ↦ elim (over_cases key all once x behind) [
      | inl was ↦ subst P was.is (earlier was.was was.found)
      | inr left ↦ others x left
    ]
  ]

  currents : AreCurrent now
  currents = cases (λ d. d.over ≡ false → current_of now d.key ≡ Some d) (λ live. creation_here key identity all) (λ d found live. absurd (true≢false live)) (λ d left live.
      let found = c.stand.current d left.one_of live in
      elim (keys d.key key) [
        | inl same ↦ absurd (left.another d (subst (λ (k : Key). current_of all k ≡ Some d) same found) refl)
        | inr differ ↦ creation_elsewhere key identity all d.key (λ same. differ (sym same)) ∙ found
      ])

  overs : (x : Database) → Contains now x → x.over ≡ true → IsFree g x t
  overs = cases (λ d. d.over ≡ true → IsFree g d t) (λ over. absurd (true≢false (sym over)))
      (λ d found over. c.free d (current_in key all d found) (current_key key all d found)) (λ d left over. c.stand.over d left.one_of over)

  pub begun_stand : Stand g now t
  begun_stand = record {
    worlds = λ image is. begins_holding (Spells g) g all image key identity (c.stand.worlds image is) c.fresh;
    logs = cases (λ d. IsLog g d.log) (issued_is_log g identity) (λ d found. c.stand.logs d (current_in key all d found)) (λ d left. c.stand.logs d left.one_of);
    ended = cases (λ d. EndsSole d.log) (issued_sole (issued_log identity) refl) (λ d found. c.stand.ended d (current_in key all d found)) (λ d left. c.stand.ended d left.one_of);
    current = currents;
    over = overs;
  }

  -- no places come and go still
  pub begun_anew : AreAnew all → AreAnew now
  begun_anew anew = cases (λ d. IsAnew d.log) (issued_anew identity) (λ d found. anew d (current_in key all d found)) (λ d left. anew d left.one_of)

  -- what lies on its slices of an earlier database of its key may be taken
  of_earlier : (d : Database) (line : SliceLine) → Contains all d → d.key ≡ key → Contains lines line → MayBeTakenAt g d line t
  of_earlier d line one_of keyed has = elim (c.free d one_of keyed) [ inl free ↦ inl free | inr over ↦ inr (over_loose g all t c.stand d line one_of over) ]

  -- a boot of another database doesn't look there, or what lies there may be taken from it
  apart : (line : SliceLine) → Contains lines line → (x : Database) → Contains now x → (x.identity ≡ identity → ⊥) → (Contains (site_of g x.key).lines line → ⊥) ⊎ MayBeTakenAt g x line t
  apart line has =
      cases (λ d. (d.identity ≡ identity → ⊥) → (Contains (site_of g d.key).lines line → ⊥) ⊎ MayBeTakenAt g d line t) (λ differ. absurd (differ refl))
      (λ d found differ. inr (of_earlier d line (current_in key all d found) (current_key key all d found) has))
      (λ d left differ. elim (keys d.key key) [ inl same ↦ inr (of_earlier d line left.one_of same has) | inr other ↦ c.others d line left.one_of other has ])

  cleared : MayClear (Spells g) g now key identity lines t
  cleared = record {
    none = λ image is. none_found (Spells g) g all image key identity (c.stand.worlds image is) c.fresh;
    rest = rest_of (Spells g) g now t identity begun_stand.worlds;
    taken = λ line has image is d rest. elim (apart line has d rest.0 rest.1) [
      | inl out ↦ inl out
      | inr may ↦ inr (elim may [ inl free ↦ inl (free.0, free.1 image is) | inr loose ↦ inr (loose image is) ])
    ];
  }

  forms : MayForm g key lines seats
  forms = record { sound = c.sound; sites = c.sites; within = c.within; of_geometry = c.of_geometry }

  pub may_create : MayCreate g now key identity lines seats t
  may_create = record {
    forms = forms;
    one_of = record { database = its_new; one_of = current_in key now its_new (creation_here key identity all); of_key = refl; of_identity = refl };
    clear = cleared;
  }

  -- By a moment its log has gone on.
  module _ (m : Tale) (moment : CreateMoment key identity lines count blocks t m) where
    abbrev Starts : Log → Type 0
    Starts log = CoversWith (Spells g) (site_of g key) identity (λ image w. IsStart (site_of g key) w) log t

    module _ (Then : Core → Type 0) (After : Log → Type 0) (goes : CreateGoes g key identity seats Then After t m) where
      abbrev Goes : Log → Type 0
      Goes = GoesTraced (Spells g) g (site_of g key) identity [] (IsStart (site_of g key)) (AreOfCreation g key seats) Then After t m

      went : Goes (log_of now key)
      went = subst Goes (sym (creation_log key identity all)) goes

      gone_on : Gone g now key identity [] went.es Then After m
      gone_on =
          go_on ChangesAlone g now key identity [] (IsStart (site_of g key)) (AreOfCreation g key seats) Then After t m begun_stand (creation_its key identity all)
          (subst Starts (sym (creation_log key identity all)) (none_started (Spells g) (site_of g key) identity (issued_log identity) t cleared.none refl refl))
          (moment.rest g now may_create) (moment.blank g forms) went

    pub created_goes : GoOn g now key identity [] AnyLog m
    created_goes = (gone_on AnyWorld AnyLog (moment.goes g now may_create)).goes

    -- where it failed
    module _ (ended : IsEnded g key identity seats (Err unmade.Failed) t m) where
      abbrev went_on : GoOn g now key identity [] (λ log. log.family ≡ []) m
      went_on = (gone_on AnyWorld (λ log. log.family ≡ []) ended.0).goes

      -- the new one shows no table, and wasn't about to be deleted
      new_free : IsFree g (gone went_on.es its_new) m
      new_free = inl ((anew_after_all g (issued_log identity) went_on.es (issued_anew identity) (subst (λ (l : Log). IsCourse g l went_on.es) (creation_log key identity all) went_on.course) (asked_issued PlacesStay [] [] went_on.es went_on.come tt)).lives, ended.1)

      all_free : AreFreed g (with_events key went_on.es now) key m
      all_free x has keyed = elim (cases_Bool x.over) [
        | inl over ↦ went_on.stand.over x has over
        | inr going ↦
            let found = subst (λ (k : Key). current_of (with_events key went_on.es now) k ≡ Some x) keyed (went_on.stand.current x has going) in
            let here = events_here key went_on.es now its_new (creation_here key identity all) in
            subst (λ (d : Database). IsFree g d m) (one_current key (with_events key went_on.es now) (gone went_on.es its_new) x here found) new_free
      ]

      pub created_fails : IsUnmadeIn g now key identity t m
      created_fails = record {
        goes = went_on;
        free = all_free;
        none = λ none other. elim (identities other identity) [
          | inl same ↦ subst (λ (x : Identity). IsBlank g key x m) (sym same) ended.1
          | inr differ ↦ moment.blank g forms key other differ (none other)
        ];
      }

    -- once it is made
    pub created_made : (o : Opened) → IsEnded g key identity seats (Ok o) t m → o.key ≡ key → o.identity ≡ identity → IsMadeIn g now key identity o m
    created_made o ended of_key of_identity =
        let is = gone_on (IsReadyWith (spots_of o.seats)) (IsCreatedTo o) ended.1 in
        record { goes = is.goes; is_open = opens ChangesAlone g now key identity [] _ (IsCreatedTo o) o m is of_key of_identity (λ log after. after.newest) (lives_after_all ChangesAlone g (log_of now key) is.goes.es (λ never. never) (ap (λ (l : Log). l.fate) (creation_log key identity all)) is.goes.course is.goes.come.issues) ended.0 }

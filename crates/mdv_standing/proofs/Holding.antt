-- Standing with all databases at once.
use Rattle.std.proofs.Common.{◌≡◌, ◌⊎◌, inl, inr, ℕ, zero, suc, ◌<◌, Bool, true, false, List, [], ◌∷◌, length, refl, sym, ◌∙◌, ap, subst, cond, Contains, None, Some, arith}
use Rattle.std.proofs.lemmas.Bool.{cases_Bool}
use Rattle.std.specs.Prelude.{slice_index_or}
use Rattle.mdv_shelf.proofs.Everywhere.{everywhere_begun}
use Rattle.mdv_shown.specs.Sites.{site_of}
use Rattle.mdv_store_law.specs.Laws.{restarted}
use Rattle.mdv_standing.specs.Below.{Geometry, Identity, Image, IsImage, Key, Table, Tale, start}
use Rattle.mdv_standing.specs.Creating.{issued_log}
use Rattle.mdv_store_law.specs.Log as log
use Rattle.mdv_standing.specs.Databases.{Database, current_of, is_current, with_creation, with_event, with_over}
use Rattle.mdv_standing.specs.Holding.{AllStand, AreOnce, HasNoReplica, HasWorld, Holds, IsFresh, IsOneOf}
use Rattle.mdv_standing.specs.Laws.{HasNone}
use Rattle.mdv_standing.specs.Matching.{is_set}
use Rattle.mdv_standing.specs.Rest.{HoldsRest, IsRest, RestStands}
use Rattle.mdv_standing.specs.Standing.{Covers}
use Rattle.mdv_standing.proofs.Lawful.{world_none}

contains_cases : (d : Database) (all : List Database) (e : Database) → Contains (d ∷ all) e → (d ≡ e) ⊎ Contains all e
contains_cases d all e has = by has.0 has.1 has.2
  where
    by : (k : ℕ) → k < length (d ∷ all) → slice_index_or (d ∷ all) k e ≡ e → (d ≡ e) ⊎ Contains all e
    by zero lt same = inl same
    by (suc k) lt same = inr (k, omega arith, same)

behind : (d : Database) (all : List Database) (e : Database) → Contains all e → Contains (d ∷ all) e
behind d all e has = (suc has.0, omega (arith, has.1), has.2)

some_same : (a b : Database) → Some a ≡ Some b → a ≡ b
some_same a b e = cc

not_some : (a : Database) → None ≡ Some a → ⊥
not_some a e = cc

-- the key's newest current one, changed
abbrev with_current : Key → (Database → Database) → List Database → List Database
with_current key f [] = []
with_current key f (d ∷ ds) = cond (is_current key d) (f d ∷ ds) (d ∷ with_current key f ds)

abbrev shut : Database → Database
shut d = record d { over = true }

abbrev moved : log.Event → Database → Database
moved e d = record d { log = log.log_after d.log e }

over_as : (key : Key) (all : List Database) → with_current key shut all ≡ with_over key all
over_as key [] = refl
over_as key (d ∷ all) = ap (λ (l : List Database). cond (is_current key d) (shut d ∷ all) (d ∷ l)) (over_as key all)

event_as : (key : Key) (e : log.Event) (all : List Database) → with_current key (moved e) all ≡ with_event key e all
event_as key e [] = refl
event_as key e (d ∷ all) = ap (λ (l : List Database). cond (is_current key d) (moved e d ∷ all) (d ∷ l)) (event_as key e all)

-- a change of one of them that leaves its key and identity
module _ (key : Key) (f : Database → Database) (keyed : (d : Database) → (f d).key ≡ d.key) (named : (d : Database) → (f d).identity ≡ d.identity) where
  current_is : (d : Database) (all : List Database) (b : Bool) → is_current key d ≡ b → with_current key f (d ∷ all) ≡ cond b (f d ∷ all) (d ∷ with_current key f all)
  current_is d all b e = ap (λ (x : Bool). cond x (f d ∷ all) (d ∷ with_current key f all)) e

  -- what holds of each, changed or not, holds of each then
  current_all : (P : Database → Type 0) → ((d : Database) → P d → P (f d)) → (all : List Database) → ((d : Database) → Contains all d → P d) → (e : Database) → Contains (with_current key f all) e → P e
  current_all P also [] each e has = each e has
  current_all P also (d ∷ all) each e has =
      elim (cases_Bool (is_current key d)) [
        | inl is ↦ elim (contains_cases (f d) all e (subst (λ (l : List Database). Contains l e) (current_is d all true is) has)) [
          | inl here ↦ subst P here (also d (each d (0, omega arith, refl)))
          | inr rest ↦ each e (behind d all e rest)
        ]
        | inr isnt ↦ elim (contains_cases d (with_current key f all) e (subst (λ (l : List Database). Contains l e) (current_is d all false isnt) has)) [
          | inl here ↦ subst P here (each d (0, omega arith, refl))
          | inr rest ↦ current_all P also all (λ x in_all. each x (behind d all x in_all)) e rest
        ]
      ]

  -- and each is still there
  current_to : (all : List Database) (d : Database) → Contains all d → Contains (with_current key f all) d ⊎ Contains (with_current key f all) (f d)
  current_to [] d has = inl has
  current_to (x ∷ all) d has =
      elim (cases_Bool (is_current key x)) [
        | inl is ↦
            let now : with_current key f (x ∷ all) ≡ f x ∷ all = current_is x all true is in
            elim (contains_cases x all d has) [
              | inl here ↦ inr (subst (λ (l : List Database). Contains l (f d)) (sym now) (0, omega arith, ap f here))
              | inr rest ↦ inl (subst (λ (l : List Database). Contains l d) (sym now) (behind (f x) all d rest))
            ]
        | inr isnt ↦
            let now : with_current key f (x ∷ all) ≡ x ∷ with_current key f all = current_is x all false isnt in
            elim (contains_cases x all d has) [
              | inl here ↦ inl (subst (λ (l : List Database). Contains l d) (sym now) (0, omega arith, here))
              | inr rest ↦ elim (current_to all d rest) [
                | inl same ↦ inl (subst (λ (l : List Database). Contains l d) (sym now) (behind x (with_current key f all) d same))
                | inr other ↦ inr (subst (λ (l : List Database). Contains l (f d)) (sym now) (behind x (with_current key f all) (f d) other))
              ]
            ]
      ]

  fresh_still : (identity : Identity) (all : List Database) → IsFresh all identity → IsFresh (with_current key f all) identity
  fresh_still identity all fresh = current_all (λ x. x.identity ≡ identity → ⊥) (λ x other same. other (sym (named x) ∙ same)) all fresh

  current_once : (all : List Database) → AreOnce all → AreOnce (with_current key f all)
  current_once [] once = once
  current_once (d ∷ all) once =
      elim (cases_Bool (is_current key d)) [
        | inl is ↦ subst AreOnce (sym (current_is d all true is)) (subst (IsFresh all) (sym (named d)) once.0, once.1)
        | inr isnt ↦ subst AreOnce (sym (current_is d all false isnt)) (fresh_still d.identity all once.0, current_once all once.1)
      ]

  one_of_current : (other : Key) (all : List Database) (identity : Identity) → IsOneOf all other identity → IsOneOf (with_current key f all) other identity
  one_of_current other all identity is =
      elim (current_to all is.database is.one_of) [
        | inl same ↦ record { database = is.database; one_of = same; of_key = is.of_key; of_identity = is.of_identity }
        | inr now ↦ record { database = f is.database; one_of = now; of_key = keyed is.database ∙ is.of_key; of_identity = named is.database ∙ is.of_identity }
      ]

  -- each is the changed one, or was there and has another identity
  current_cases : (d : Database) (all : List Database) → AreOnce all → current_of all key ≡ Some d → (x : Database) → Contains (with_current key f all) x → (f d ≡ x) ⊎ IsRest all d.identity x
  current_cases d [] once is x has = absurd (omega (arith, has.1))
  current_cases d (y ∷ all) once found x has =
      elim (cases_Bool (is_current key y)) [
        | inl is ↦
            let same : y ≡ d = some_same y d (sym (current_at y all true is) ∙ found) in
            elim (contains_cases (f y) all x (subst (λ (l : List Database). Contains l x) (current_is y all true is) has)) [
              | inl here ↦ inl (ap f (sym same) ∙ here)
              | inr rest ↦ inr (behind y all x rest, λ equal. once.0 x rest (equal ∙ sym (ap (λ (z : Database). z.identity) same)))
            ]
        | inr isnt ↦
            let later : current_of all key ≡ Some d = sym (current_at y all false isnt) ∙ found in
            elim (contains_cases y (with_current key f all) x (subst (λ (l : List Database). Contains l x) (current_is y all false isnt) has)) [
              | inl here ↦ inr ((0, omega arith, here), λ equal. once.0 d (current_in d all later) (sym equal ∙ sym (ap (λ (z : Database). z.identity) here)))
              | inr rest ↦ elim (current_cases d all once.1 later x rest) [
                | inl changed ↦ inl changed
                | inr other ↦ inr (behind y all x other.0, other.1)
              ]
            ]
      ]
    where
      current_at : (y : Database) (all : List Database) (b : Bool) → is_current key y ≡ b → current_of (y ∷ all) key ≡ cond b (Some y) (current_of all key)
      current_at y all b e = ap (λ (c : Bool). cond c (Some y) (current_of all key)) e

      current_in : (d : Database) (all : List Database) → current_of all key ≡ Some d → Contains all d
      current_in d [] e = absurd (not_some d e)
      current_in d (y ∷ all) e =
          elim (cases_Bool (is_current key y)) [
            | inl is ↦ (0, omega arith, some_same y d (sym (current_at y all true is) ∙ e))
            | inr isnt ↦ behind y all d (current_in d all (sym (current_at y all false isnt) ∙ e))
          ]

-- two of them are one or have two identities
once_cases : (d x : Database) (all : List Database) → AreOnce all → Contains all d → Contains all x → (d ≡ x) ⊎ IsRest all d.identity x
once_cases d x [] once has its = absurd (omega (arith, has.1))
once_cases d x (y ∷ all) once has its =
    elim (contains_cases y all d has) [
      | inl here ↦ elim (contains_cases y all x its) [
        | inl same ↦ inl (sym here ∙ same)
        | inr rest ↦ inr (its, λ equal. once.0 x rest (equal ∙ sym (ap (λ (z : Database). z.identity) here)))
      ]
      | inr there ↦ elim (contains_cases y all x its) [
        | inl same ↦ inr (its, λ equal. once.0 d there (sym equal ∙ sym (ap (λ (z : Database). z.identity) same)))
        | inr rest ↦ elim (once_cases d x all once.1 there rest) [
          | inl one ↦ inl one
          | inr other ↦ inr (its, other.1)
        ]
      ]
    ]

pub all_stand : (Spells : List ℕ → Table → Type 0) (g : Geometry) (all : List Database) (m : Tale) (image : Image) (told : List ℕ) → AllStand Spells g all m → IsImage m image → AllStand Spells g all (restarted image told)
all_stand Spells g all m image told stands is = everywhere_begun (Holds Spells g all) (record { block = image; told = told }) (stands image is)

pub none_stand : (Spells : List ℕ → Table → Type 0) (g : Geometry) (image : Image) (told : List ℕ) → HasNoReplica Spells g image → AllStand Spells g [] (restarted image told)
none_stand Spells g image told none = everywhere_begun (Holds Spells g []) (record { block = image; told = told }) (record {
  worlds = λ d has. absurd (omega (arith, has.1));
  known = λ key line k first head found. absurd (none key line k first head found);
  once = tt;
})

module _ (Spells : List ℕ → Table → Type 0) (g : Geometry) (all : List Database) (image : Image) (key : Key) (identity : Identity) (holds : Holds Spells g all image) (fresh : IsFresh all identity) where
  pub none_found : HasNone Spells (site_of g key) identity image
  none_found line k first head own = (let is = holds.known key line k first head own.found in fresh is.database is.one_of (is.of_identity ∙ own.of_identity))

  abbrev new : Database
  new = record { key = key; identity = identity; log = issued_log identity; over = false }

  closed : (P : Database → Type 0) → ((d : Database) → P d → P (shut d)) → ((d : Database) → Contains all d → P d) → (e : Database) → Contains (with_over key all) e → P e
  closed P also each e has = current_all key shut (λ x. refl) (λ x. refl) P also all each e (subst (λ (l : List Database). Contains l e) (sym (over_as key all)) has)

  pub begins_holding : Holds Spells g (with_creation key identity all) image
  begins_holding = record {
    worlds = λ d has. elim (contains_cases new (with_over key all) d has) [
      | inl here ↦ subst (HasWorld Spells g image) here (start (is_set key), world_none Spells (site_of g key) identity (issued_log identity) refl refl image none_found)
      | inr rest ↦ closed (HasWorld Spells g image) (λ x is. is) holds.worlds d rest
    ];
    known = λ other line k first head found.
        let is = subst (λ (l : List Database). IsOneOf l other head.master.identity) (over_as key all) (one_of_current key shut (λ x. refl) (λ x. refl) other all head.master.identity (holds.known other line k first head found)) in
        record { database = is.database; one_of = behind new (with_over key all) is.database is.one_of; of_key = is.of_key; of_identity = is.of_identity };
    once = (closed (λ x. x.identity ≡ identity → ⊥) (λ x other. other) fresh, subst AreOnce (over_as key all) (current_once key shut (λ x. refl) (λ x. refl) all holds.once));
  }

module _ (Spells : List ℕ → Table → Type 0) (g : Geometry) (all : List Database) (t : Tale) where
  pub rest_of : (identity : Identity) → AllStand Spells g all t → RestStands Spells g all identity t
  rest_of identity stand image is = (let h = stand image is in record { worlds = λ d rest. h.worlds d rest.0; known = h.known; once = h.once })

  module _ (d : Database) (rest : RestStands Spells g all d.identity t) where
    -- the one with its world, and the rest
    with_one : (x : Database) (image : Image) → HasWorld Spells g image x → HoldsRest Spells g all d.identity image → (e : Database) → (x ≡ e) ⊎ IsRest all d.identity e → HasWorld Spells g image e
    with_one x image own others e (inl same) = subst (HasWorld Spells g image) same own
    with_one x image own others e (inr is) = others.worlds e is

    pub joined : Contains all d → Covers Spells (site_of g d.key) d.identity d.log t → AllStand Spells g all t
    joined has own image is =
        let h = rest image is in
        record { worlds = λ e in_all. with_one d image (own image is) h e (once_cases d e all h.once has in_all); known = h.known; once = h.once }

    pub gone_on : (e : log.Event) → current_of all d.key ≡ Some d → Covers Spells (site_of g d.key) d.identity (log.log_after d.log e) t → AllStand Spells g (with_event d.key e all) t
    gone_on e current own image is =
        let h = rest image is in
        let f = moved e in
        subst (λ (l : List Database). Holds Spells g l image) (event_as d.key e all) (record {
          worlds = λ x has. with_one (f d) image (own image is) h x (current_cases d.key f (λ y. refl) (λ y. refl) d all h.once current x has);
          known = λ other line k first head found. one_of_current d.key f (λ y. refl) (λ y. refl) other all head.master.identity (h.known other line k first head found);
          once = current_once d.key f (λ y. refl) (λ y. refl) all h.once;
        })

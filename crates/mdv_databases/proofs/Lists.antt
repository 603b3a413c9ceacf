-- The databases of a list over what happens to the current one of a key.
use Rattle.std.proofs.Common.{◌≡◌, ◌⊎◌, inl, inr, ℕ, Bool, true, false, not, ◌==◌, cond, List, [], ◌∷◌, Option, None, Some, Contains, refl, sym, ◌∙◌, ap, subst, arith, eq-eqb}
use Rattle.std.proofs.lemmas.Bool.{and_from, and_left, and_parts, cases_Bool}
use Rattle.std.proofs.lemmas.Bool.Decides.{nat_tests}
use Rattle.mdv_base.specs.declared.name.Key.TheVariants.{Local, Set}
use Rattle.mdv_store_law.specs.Log.{Event, log_after_all}
use Rattle.mdv_standing.specs.Databases.{is_current, log_in, same_key, same_text}
use Rattle.mdv_standing.specs.Holding.{AreOnce, IsOneOf}
use Rattle.mdv_standing.specs.Rest.{IsRest}
use Rattle.mdv_store.proofs.Sitting.{contains_behind, contains_first, first_or_behind}
use Rattle.mdv_databases.specs.Below.{Database, Identity, IsFresh, Key, current_of, log_of, with_event}
use Rattle.mdv_databases.specs.Going.{IsCurrentOf, with_events}

-- Keys.
number_is : (a b : ℕ) → a == b ≡ true → a ≡ b
number_is a b is = grind (arith, nat_tests)

text_is : (a b : List ℕ) → same_text a b ≡ true → a ≡ b
text_is [] [] is = refl
text_is [] (d ∷ other) is = cc
text_is (c ∷ text) [] is = cc
text_is (c ∷ text) (d ∷ other) is =
    let both = and_parts (c == d) (same_text text other) is in
    let front = number_is c d both.0 in
    let rest = text_is text other both.1 in cc (front, rest)

text_itself : (a : List ℕ) → same_text a a ≡ true
text_itself [] = refl
text_itself (c ∷ text) = and_from (c == c) (same_text text text) (eq-eqb c c refl) (text_itself text)

-- the test tells whether keys are one
pub key_is : (a b : Key) → same_key a b ≡ true → a ≡ b
key_is (Local a) (Local b) is = ap (λ (n : List ℕ). Local n) (text_is a b is)
key_is (Local a) (Set b) is = cc
key_is (Set a) (Local b) is = cc
key_is (Set a) (Set b) is = ap (λ (n : List ℕ). Set n) (text_is a b is)

pub key_itself : (a : Key) → same_key a a ≡ true
key_itself (Local a) = text_itself a
key_itself (Set a) = text_itself a

pub key_other : (a b : Key) → (a ≡ b → ⊥) → same_key a b ≡ false
key_other a b differ = elim (cases_Bool (same_key a b)) [ inl does ↦ absurd (differ (key_is a b does)) | inr never ↦ never ]

pub key_differs : (a b : Key) → same_key a b ≡ false → a ≡ b → ⊥
key_differs a b never same = let itself = subst (λ (k : Key). same_key a k ≡ true) same (key_itself a) in cc (itself, never)

-- Lists.
pub some_same : (a b : Database) → Some a ≡ Some b → a ≡ b
some_same a b e = cc

not_some : (a : Database) → None ≡ Some a → ⊥
not_some a e = cc

not_over : (b : Bool) → not b ≡ true → b ≡ false
not_over true e = cc
not_over false e = refl

-- The current one of a key.
module _ (key : Key) where
  found_at : (d : Database) (all : List Database) (b : Bool) → is_current key d ≡ b → current_of (d ∷ all) key ≡ cond b (Some d) (current_of all key)
  found_at d all b is = ap (λ (c : Bool). cond c (Some d) (current_of all key)) is

  -- it is one of them, of that key, and isn't over
  pub current_in : (all : List Database) (d : Database) → current_of all key ≡ Some d → Contains all d
  current_in [] d e = absurd (not_some d e)
  current_in (y ∷ all) d e = elim (cases_Bool (is_current key y)) [
    | inl is ↦ subst (λ (x : Database). Contains (y ∷ all) x) (some_same y d (sym (found_at y all true is) ∙ e)) (contains_first y all)
    | inr isnt ↦ contains_behind y d all (current_in all d (sym (found_at y all false isnt) ∙ e))
  ]

  current_passes : (all : List Database) (d : Database) → current_of all key ≡ Some d → is_current key d ≡ true
  current_passes [] d e = absurd (not_some d e)
  current_passes (y ∷ all) d e = elim (cases_Bool (is_current key y)) [
    | inl is ↦ subst (λ (x : Database). is_current key x ≡ true) (some_same y d (sym (found_at y all true is) ∙ e)) is
    | inr isnt ↦ current_passes all d (sym (found_at y all false isnt) ∙ e)
  ]

  pub current_key : (all : List Database) (d : Database) → current_of all key ≡ Some d → d.key ≡ key
  current_key all d e = sym (key_is key d.key (and_parts (same_key key d.key) (not d.over) (current_passes all d e)).0)

  pub current_goes : (all : List Database) (d : Database) → current_of all key ≡ Some d → d.over ≡ false
  current_goes all d e = not_over d.over (and_parts (same_key key d.key) (not d.over) (current_passes all d e)).1

  pub one_current : (all : List Database) (d x : Database) → current_of all key ≡ Some d → current_of all key ≡ Some x → d ≡ x
  one_current all d x one other = some_same d x (sym one ∙ other)

-- the current one of the key, changed
abbrev pub with_current : Key → (Database → Database) → List Database → List Database
with_current key f [] = []
with_current key f (d ∷ ds) = cond (is_current key d) (f d ∷ ds) (d ∷ with_current key f ds)

-- The change leaves whose each is.
module _ (key : Key) (f : Database → Database) (keyed : (d : Database) → (f d).key ≡ d.key) (named : (d : Database) → (f d).identity ≡ d.identity) where
  changed_at : (d : Database) (all : List Database) (b : Bool) → is_current key d ≡ b → with_current key f (d ∷ all) ≡ cond b (f d ∷ all) (d ∷ with_current key f all)
  changed_at d all b is = ap (λ (c : Bool). cond c (f d ∷ all) (d ∷ with_current key f all)) is

  -- each was there, changed or not
  was_there : (all : List Database) (x : Database) → Contains (with_current key f all) x → (y : Database) × Contains all y × (x.identity ≡ y.identity)
  was_there [] x has = absurd (omega (arith, has.1))
  was_there (d ∷ all) x has = elim (cases_Bool (is_current key d)) [
    | inl is ↦ elim (first_or_behind (f d) x all (subst (λ (l : List Database). Contains l x) (changed_at d all true is) has)) [
      | inl here ↦ (d, contains_first d all, ap (λ (z : Database). z.identity) (sym here) ∙ named d)
      | inr rest ↦ (x, contains_behind d x all rest, refl)
    ]
    | inr isnt ↦ elim (first_or_behind d x (with_current key f all) (subst (λ (l : List Database). Contains l x) (changed_at d all false isnt) has)) [
      | inl here ↦ (d, contains_first d all, ap (λ (z : Database). z.identity) (sym here))
      | inr rest ↦ (let one = was_there all x rest in (one.0, contains_behind d one.0 all one.1, one.2))
    ]
  ]

  -- and each is still there, changed or not
  still_there : (all : List Database) (d : Database) → Contains all d → Contains (with_current key f all) d ⊎ Contains (with_current key f all) (f d)
  still_there [] d has = inl has
  still_there (x ∷ all) d has = elim (cases_Bool (is_current key x)) [
    | inl is ↦
        let now = sym (changed_at x all true is) in
        elim (first_or_behind x d all has) [
          | inl here ↦ inr (subst (λ (l : List Database). Contains l (f d)) now (subst (λ (y : Database). Contains (f x ∷ all) (f y)) here (contains_first (f x) all)))
          | inr rest ↦ inl (subst (λ (l : List Database). Contains l d) now (contains_behind (f x) d all rest))
        ]
    | inr isnt ↦
        let now = sym (changed_at x all false isnt) in
        elim (first_or_behind x d all has) [
          | inl here ↦ inl (subst (λ (l : List Database). Contains l d) now (subst (λ (y : Database). Contains (x ∷ with_current key f all) y) here (contains_first x (with_current key f all))))
          | inr rest ↦ elim (still_there all d rest) [
            | inl same ↦ inl (subst (λ (l : List Database). Contains l d) now (contains_behind x d (with_current key f all) same))
            | inr other ↦ inr (subst (λ (l : List Database). Contains l (f d)) now (contains_behind x (f d) (with_current key f all) other))
          ]
        ]
  ]

  pub changed_fresh : (identity : Identity) (all : List Database) → IsFresh all identity → IsFresh (with_current key f all) identity
  changed_fresh identity all fresh x has same = (let one = was_there all x has in fresh one.0 one.1 (sym one.2 ∙ same))

  pub changed_once : (all : List Database) → AreOnce all → AreOnce (with_current key f all)
  changed_once [] once = once
  changed_once (d ∷ all) once = elim (cases_Bool (is_current key d)) [
    | inl is ↦ subst AreOnce (sym (changed_at d all true is)) (subst (IsFresh all) (sym (named d)) once.0, once.1)
    | inr isnt ↦ subst AreOnce (sym (changed_at d all false isnt)) (changed_fresh d.identity all once.0, changed_once all once.1)
  ]

  pub changed_one_of : (other : Key) (all : List Database) (identity : Identity) → IsOneOf all other identity → IsOneOf (with_current key f all) other identity
  changed_one_of other all identity is = elim (still_there all is.database is.one_of) [
    | inl same ↦ record { database = is.database; one_of = same; of_key = is.of_key; of_identity = is.of_identity }
    | inr now ↦ record { database = f is.database; one_of = now; of_key = keyed is.database ∙ is.of_key; of_identity = named is.database ∙ is.of_identity }
  ]

  -- each is the changed one, or was there and has another identity
  pub changed_cases : (d : Database) (all : List Database) → AreOnce all → current_of all key ≡ Some d → (x : Database) → Contains (with_current key f all) x → (f d ≡ x) ⊎ IsRest all d.identity x
  changed_cases d [] once is x has = absurd (omega (arith, has.1))
  changed_cases d (y ∷ all) once found x has = elim (cases_Bool (is_current key y)) [
    | inl is ↦
        let same : y ≡ d = some_same y d (sym (found_at key y all true is) ∙ found) in
        elim (first_or_behind (f y) x all (subst (λ (l : List Database). Contains l x) (changed_at y all true is) has)) [
          | inl here ↦ inl (ap f (sym same) ∙ here)
          | inr rest ↦ inr (contains_behind y x all rest, λ equal. once.0 x rest (equal ∙ sym (ap (λ (z : Database). z.identity) same)))
        ]
    | inr isnt ↦
        let later : current_of all key ≡ Some d = sym (found_at key y all false isnt) ∙ found in
        elim (first_or_behind y x (with_current key f all) (subst (λ (l : List Database). Contains l x) (changed_at y all false isnt) has)) [
          | inl here ↦ inr (subst (λ (z : Database). Contains (y ∷ all) z) here (contains_first y all), λ equal. once.0 d (current_in key all d later) (sym equal ∙ sym (ap (λ (z : Database). z.identity) here)))
          | inr rest ↦ elim (changed_cases d all once.1 later x rest) [
            | inl changed ↦ inl changed
            | inr other ↦ inr (contains_behind y x all other.0, other.1)
          ]
        ]
  ]

  -- one that isn't current for the key
  module _ (other : Key) (differ : key ≡ other → ⊥) where
    away : (d x : Database) → is_current key d ≡ true → x.key ≡ d.key → is_current other x ≡ false
    away d x is same =
        let apart : same_key other x.key ≡ false = key_other other x.key (λ its. differ (key_is key d.key (and_parts (same_key key d.key) (not d.over) is).0 ∙ sym same ∙ sym its)) in
        and_left (same_key other x.key) (not x.over) apart

    -- the current one of another key stays
    pub changed_elsewhere : (all : List Database) → current_of (with_current key f all) other ≡ current_of all other
    changed_elsewhere [] = refl
    changed_elsewhere (d ∷ all) = elim (cases_Bool (is_current key d)) [
      | inl is ↦
          ap (λ (l : List Database). current_of l other) (changed_at d all true is)
          ∙ found_at other (f d) all false (away d (f d) is (keyed d))
          ∙ sym (found_at other d all false (away d d is refl))
      | inr isnt ↦
          ap (λ (l : List Database). current_of l other) (changed_at d all false isnt)
          ∙ ap (λ (o : Option Database). cond (is_current other d) (Some d) o) (changed_elsewhere all)
    ]

  -- one that stays current is found in its place
  pub changed_here : ((d : Database) → is_current key (f d) ≡ is_current key d) → (all : List Database) (d : Database) → current_of all key ≡ Some d → current_of (with_current key f all) key ≡ Some (f d)
  changed_here stays [] d e = absurd (not_some d e)
  changed_here stays (y ∷ all) d e = elim (cases_Bool (is_current key y)) [
    | inl is ↦
        ap (λ (l : List Database). current_of l key) (changed_at y all true is)
        ∙ found_at key (f y) all true (stays y ∙ is)
        ∙ ap (λ (z : Database). Some (f z)) (some_same y d (sym (found_at key y all true is) ∙ e))
    | inr isnt ↦
        ap (λ (l : List Database). current_of l key) (changed_at y all false isnt)
        ∙ found_at key y (with_current key f all) false isnt
        ∙ changed_here stays all d (sym (found_at key y all false isnt) ∙ e)
  ]

-- a database behind these events of its log
abbrev pub gone : List Event → Database → Database
gone es d = record d { log = log_after_all d.log es }

-- Events of the log of the key's current one.
module _ (key : Key) where
  gone_at : (es : List Event) (d : Database) (all : List Database) (b : Bool) → is_current key d ≡ b → with_current key (gone es) (d ∷ all) ≡ cond b (gone es d ∷ all) (d ∷ with_current key (gone es) all)
  gone_at es = changed_at key (gone es) (λ d. refl) (λ d. refl)

  event_at : (e : Event) (d : Database) (all : List Database) (b : Bool) → is_current key d ≡ b → with_event key e (d ∷ all) ≡ cond b (gone (e ∷ []) d ∷ all) (d ∷ with_event key e all)
  event_at e d all b is = ap (λ (c : Bool). cond c (gone (e ∷ []) d ∷ all) (d ∷ with_event key e all)) is

  none_gone : (all : List Database) → all ≡ with_current key (gone []) all
  none_gone [] = refl
  none_gone (d ∷ all) = elim (cases_Bool (is_current key d)) [
    | inl is ↦ sym (gone_at [] d all true is)
    | inr isnt ↦ ap (λ (l : List Database). d ∷ l) (none_gone all) ∙ sym (gone_at [] d all false isnt)
  ]

  event_gone : (e : Event) (es : List Event) (all : List Database) → with_current key (gone es) (with_event key e all) ≡ with_current key (gone (e ∷ es)) all
  event_gone e es [] = refl
  event_gone e es (d ∷ all) = elim (cases_Bool (is_current key d)) [
    | inl is ↦
        ap (with_current key (gone es)) (event_at e d all true is)
        ∙ gone_at es (gone (e ∷ []) d) all true is
        ∙ sym (gone_at (e ∷ es) d all true is)
    | inr isnt ↦
        ap (with_current key (gone es)) (event_at e d all false isnt)
        ∙ gone_at es d (with_event key e all) false isnt
        ∙ ap (λ (l : List Database). d ∷ l) (event_gone e es all)
        ∙ sym (gone_at (e ∷ es) d all false isnt)
  ]

  events_gone : (es : List Event) (all : List Database) → with_current key (gone es) all ≡ with_events key es all
  events_gone [] all = sym (none_gone all)
  events_gone (e ∷ es) all = sym (event_gone e es all) ∙ events_gone es (with_event key e all)

  module _ (es : List Event) (all : List Database) where
    pub events_fresh : (identity : Identity) → IsFresh all identity → IsFresh (with_events key es all) identity
    events_fresh identity fresh = subst (λ (l : List Database). IsFresh l identity) (events_gone es all) (changed_fresh key (gone es) (λ d. refl) (λ d. refl) identity all fresh)

    pub events_once : AreOnce all → AreOnce (with_events key es all)
    events_once once = subst AreOnce (events_gone es all) (changed_once key (gone es) (λ d. refl) (λ d. refl) all once)

    pub events_one_of : (other : Key) (identity : Identity) → IsOneOf all other identity → IsOneOf (with_events key es all) other identity
    events_one_of other identity is = subst (λ (l : List Database). IsOneOf l other identity) (events_gone es all) (changed_one_of key (gone es) (λ d. refl) (λ d. refl) other all identity is)

    -- the current one of another key stays
    pub events_elsewhere : (other : Key) → (key ≡ other → ⊥) → current_of (with_events key es all) other ≡ current_of all other
    events_elsewhere other differ = ap (λ (l : List Database). current_of l other) (sym (events_gone es all)) ∙ changed_elsewhere key (gone es) (λ d. refl) (λ d. refl) other differ all

    -- each is the one behind the events, or was there and has another identity
    pub events_cases : (d : Database) → AreOnce all → current_of all key ≡ Some d → (x : Database) → Contains (with_events key es all) x → (gone es d ≡ x) ⊎ IsRest all d.identity x
    events_cases d once is x has = changed_cases key (gone es) (λ y. refl) (λ y. refl) d all once is x (subst (λ (l : List Database). Contains l x) (sym (events_gone es all)) has)

    -- and that one is current then
    pub events_here : (d : Database) → current_of all key ≡ Some d → current_of (with_events key es all) key ≡ Some (gone es d)
    events_here d is = ap (λ (l : List Database). current_of l key) (sym (events_gone es all)) ∙ changed_here key (gone es) (λ y. refl) (λ y. refl) (λ y. refl) all d is

    pub events_there : (d : Database) → current_of all key ≡ Some d → Contains (with_events key es all) (gone es d)
    events_there d is = current_in key (with_events key es all) (gone es d) (events_here d is)

    pub events_log : (d : Database) → current_of all key ≡ Some d → log_of (with_events key es all) key ≡ log_after_all (log_of all key) es
    events_log d is = ap log_in (events_here d is) ∙ ap (λ (o : Option Database). log_after_all (log_in o) es) (sym is)

    pub events_its : (identity : Identity) → IsCurrentOf all key identity → IsCurrentOf (with_events key es all) key identity
    events_its identity its = record { database = gone es its.database; current = events_here its.database its.current; as_begun = its.as_begun }

-- A key's current database that is free may count as over.
use Rattle.std.proofs.Common.{◌≡◌, inl, inr, true, false, List, Option, None, Some, Contains, true≢false, refl, sym, ◌∙◌, ap, subst}
use Rattle.mdv_replica.specs.Form.{shows}
use Rattle.mdv_shelf.specs.Everywhere.{Image}
use Rattle.mdv_shelf.proofs.Everywhere.{last_image}
use Rattle.mdv_standing.specs.Databases.{with_over}
use Rattle.mdv_standing.specs.Holding.{AreOnce, HasWorld, Holds, IsOneOf}
use Rattle.mdv_standing.specs.Rest.{IsRest}
use Rattle.mdv_store_law.specs.Log.{IsLog, Lives}
use Rattle.mdv_store_law.proofs.Fates.{lives_there}
use Rattle.mdv_databases.specs.Below.{Database, Geometry, Identity, IsBlank, IsFresh, Key, Spells, Tale, current_of, last}
use Rattle.mdv_databases.specs.Booting.{AllLive}
use Rattle.mdv_databases.specs.Lasting.{AreFreed, HasNoTable}
use Rattle.mdv_databases.specs.Standing.{AreCurrent, EndsSole, IsFree, Stand}
use Rattle.mdv_databases.specs.Striking.{IsStruckOf, StrikesGo}
use Rattle.mdv_databases.proofs.Creating.{keys, over_as, over_elsewhere, over_none, shut}
use Rattle.mdv_databases.proofs.Freed.{freed_by}
use Rattle.mdv_databases.proofs.Lists.{changed_cases, changed_fresh, changed_once, changed_one_of, current_goes, current_in, current_key, one_current}

-- whose each is stays
module _ (key : Key) (all : List Database) where
  struck_fresh : (identity : Identity) → IsFresh all identity → IsFresh (with_over key all) identity
  struck_fresh identity fresh = subst (λ (l : List Database). IsFresh l identity) (over_as key all) (changed_fresh key shut (λ d. refl) (λ d. refl) identity all fresh)

  struck_once : AreOnce all → AreOnce (with_over key all)
  struck_once once = subst AreOnce (over_as key all) (changed_once key shut (λ d. refl) (λ d. refl) all once)

  struck_one_of : (other : Key) (identity : Identity) → IsOneOf all other identity → IsOneOf (with_over key all) other identity
  struck_one_of other identity one = subst (λ (l : List Database). IsOneOf l other identity) (over_as key all) (changed_one_of key shut (λ d. refl) (λ d. refl) other all identity one)

module _ (g : Geometry) (all : List Database) (key : Key) (t : Tale) (stand : Stand g all t) where
  abbrev struck : List Database
  struck = with_over key all

  once : AreOnce all
  once = (stand.worlds (last t) (last_image t)).once

  -- The current one is free.
  module _ (d : Database) (current : current_of all key ≡ Some d) (free : IsFree g d t) where
    -- each is the one that is struck, or was there and is another one
    cases : (P : Database → Type 0) → P (shut d) → ((x : Database) → IsRest all d.identity x → P x) → (x : Database) → Contains struck x → P x
    cases P one others x has = elim (changed_cases key shut (λ y. refl) (λ y. refl) d all once current x (subst (λ (l : List Database). Contains l x) (sym (over_as key all)) has)) [
      | inl is ↦ subst P is one
      | inr rest ↦ others x rest
    ]

    -- another one isn't the key's current one
    not_its : (x : Database) → IsRest all d.identity x → x.over ≡ false → x.key ≡ key → ⊥
    not_its x rest going keyed =
        let found = subst (λ (k : Key). current_of all k ≡ Some x) keyed (stand.current x rest.0 going) in
        rest.1 (ap (λ (y : Database). y.identity) (one_current key all x d found current))

    none_left : current_of struck key ≡ None
    none_left = by (current_of struck key) refl where
      by : (o : Option Database) → current_of struck key ≡ o → current_of struck key ≡ None
      by None none = none
      by (Some x) is =
          absurd (cases (λ y. y.over ≡ false → y.key ≡ key → ⊥) (λ going keyed. true≢false going) not_its x (current_in key struck x is) (current_goes key struck x is) (current_key key struck x is))

    currents : AreCurrent struck
    currents = cases (λ x. x.over ≡ false → current_of struck x.key ≡ Some x) (λ going. absurd (true≢false going)) (λ x rest going.
        elim (keys x.key key) [
          | inl same ↦ absurd (not_its x rest going same)
          | inr differ ↦ over_elsewhere key x.key (λ same. differ (sym same)) all ∙ stand.current x rest.0 going
        ])

    holds : (image : Image) → Holds (Spells g) g all image → Holds (Spells g) g struck image
    holds image is = record {
      worlds = cases (HasWorld (Spells g) g image) (is.worlds d (current_in key all d current)) (λ x rest. is.worlds x rest.0);
      known = λ other line k first head found. struck_one_of key all other head.master.identity (is.known other line k first head found);
      once = struck_once key all is.once;
    }

    struck_stands : Stand g struck t
    struck_stands = record {
      worlds = λ image is. holds image (stand.worlds image is);
      logs = cases (λ x. IsLog g x.log) (stand.logs d (current_in key all d current)) (λ x rest. stand.logs x rest.0);
      ended = cases (λ x. EndsSole x.log) (stand.ended d (current_in key all d current)) (λ x rest. stand.ended x rest.0);
      current = currents;
      over = cases (λ x. x.over ≡ true → IsFree g x t) (λ over. free) (λ x rest over. stand.over x rest.0 over);
    }

  struck_of : (now : List Database) → struck ≡ now → Stand g now t → current_of now key ≡ None → IsStruckOf g all key t
  struck_of now is stands none =
      let nobody : current_of struck key ≡ None = ap (λ (l : List Database). current_of l key) is ∙ none in
      let stood : Stand g struck t = subst (λ (l : List Database). Stand g l t) (sym is) stands in
      record {
        stand = stood;
        none = nobody;
        others = λ other differ. over_elsewhere key other differ all;
        freed = freed_by g struck key t stood (λ x found. absurd (let never = sym nobody ∙ found in cc never));
        fresh = struck_fresh key all;
      }

  -- the current one is struck, if there is one
  pub strike_free : ((d : Database) → current_of all key ≡ Some d → IsFree g d t) → IsStruckOf g all key t
  strike_free free = by (current_of all key) refl where
    by : (o : Option Database) → current_of all key ≡ o → IsStruckOf g all key t
    by None none = struck_of all (over_none key all none) stand none
    by (Some d) is = struck_of struck refl (struck_stands d is (free d is)) (none_left d is (free d is))

  pub strike_freed : AreFreed g all key t → IsStruckOf g all key t
  strike_freed freed = strike_free (λ d is. freed d (current_in key all d is) (current_key key all d is))

  pub strike_blank : (d : Database) → current_of all key ≡ Some d → d.log.fate ≡ Lives → IsBlank g key d.identity t → IsStruckOf g all key t
  strike_blank d is lives blank = strike_free (λ x found.
      subst (λ (y : Database). IsFree g y t) (one_current key all d x is found) (inl (lives, subst (λ (k : Key). IsBlank g k d.identity t) (sym (current_key key all d is)) blank)))

  -- each replica that is found is of one of its databases, which shows no table
  pub freed_none : AreFreed g all key t → AllLive all key → HasNoTable g key t
  freed_none freed alive identity image is line k first head own =
      let one = (stand.worlds image is).known key line k first head own.found in
      by one.database one.of_key (one.of_identity ∙ own.of_identity) (freed one.database one.one_of one.of_key) (alive one.database one.one_of one.of_key)
    where
      by : (d : Database) → d.key ≡ key → d.identity ≡ identity → IsFree g d t → d.log.fate ≡ Lives → shows head ≡ false
      by d keyed named (inr over) lives = absurd (lives_there d.log.fate lives over)
      by d keyed named (inl free) lives =
          subst (λ (i : Identity). IsBlank g key i t) named (subst (λ (k : Key). IsBlank g k d.identity t) keyed free.1) image is line k first head own

pub strikes_go : StrikesGo
strikes_go = record {
  freed = λ g all key t stand freed. strike_freed g all key t stand freed;
  blank = λ g all key d t stand is lives blank. strike_blank g all key t stand d is lives blank;
  none = λ g all key t stand freed alive. freed_none g all key t stand freed alive;
}

-- A table of the geometry stays one once the change of its places is over, and a new one is such a table.
use Rattle.std.proofs.Common.{◌≡◌, Bool, true, false, cond, refl, List, [], ◌∷◌, ◌++◌, get_or, Contains, arith}
use Rattle.std.proofs.lemmas.List.Elements.{All-nil, All-cons, All-head, All-tail, All-contains, Contains-get_or, Contains-append_left, Contains-append_right}
use Rattle.std.specs.Prelude.{All, not}
use Rattle.std.specs.List.{list_any}
use Rattle.mdv_config.specs.Below.{SliceName, Place, Geometry, empty_table}
use Rattle.mdv_config.specs.Below.{Lists}
use Rattle.mdv_config.specs.Below.{One, Two}
use Rattle.mdv_config.specs.Below.{Table}
use Rattle.mdv_config.specs.Lists.{same_place, beside, places_of, last_of, settled, component_slices}
use Rattle.mdv_config.specs.Slices.{Overlaps}
use Rattle.mdv_config.specs.Table.{IsListsOf, IsApart, IsOfGeometry}
use Rattle.mdv_config.proofs.Beside.{among-true}

-- what holds of each place of both lists
module _ (P : Place → Type 0) (old : List Place) (first : All P old) where
  pub all_last : (new : List Place) → All P (beside old new) → All P new
  all_last [] all = All-nil P
  all_last (x ∷ xs) all = one (list_any (same_place x) old) (λ is. (among-true old x).0 is) (all_last xs) all
    where
      one : (there : Bool) → (there ≡ true → Contains old x) → (All P (beside old xs) → All P xs) → All P (cond (not there) (x ∷ beside old xs) (beside old xs)) → All P (x ∷ xs)
      one true has others rest = All-cons P x xs (All-contains P old x first (has refl)) (others rest)
      one false has others rest = All-cons P x xs (All-head P x (beside old xs) rest) (others (All-tail P x (beside old xs) rest))

pub all_of_last : (P : Place → Type 0) (l : Lists) → All P (places_of l) → All P (last_of l)
all_of_last P (One places) all = all
all_of_last P (Two old new) all =
    let more = beside old new in
    all_last P old
    (λ k d within. All-contains P (old ++ more) (get_or old k d) all (Contains-append_left old more (get_or old k d) (Contains-get_or old k d within)))
    new
    (λ k d within. All-contains P (old ++ more) (get_or more k d) all (Contains-append_right old more (get_or more k d) (Contains-get_or more k d within)))

module _ (g : Geometry) where
  lists_settled : (l : Lists) → IsListsOf g l → IsListsOf g (One (last_of l))
  lists_settled (One places) is = is
  lists_settled (Two old new) is = is.1

  apart_settled : (l : Lists) (slices : List SliceName) → IsApart g (places_of l) slices → IsApart g (last_of l) slices
  apart_settled l slices apart = record {
    components = apart.components;
    replicas = λ k d within. all_of_last (λ p. Overlaps g.slices p.slice (get_or slices k d) → ⊥) l (apart.replicas k d within);
  }

  pub settled_of : (t : Table) → IsOfGeometry g t → IsOfGeometry g (settled t)
  settled_of t is = record {
    lists = lists_settled t.plan.lists is.lists;
    numbers = is.numbers;
    kinds = is.kinds;
    apart = apart_settled t.plan.lists (component_slices t.plan.volumes) is.apart;
    alone = record { set = is.alone.set; pending = is.alone.pending; pools = is.alone.pools };
    quiet = is.quiet;
  }

  -- a table without volumes is one where its places are
  pub empty_of : (places : List Place) → IsListsOf g (One places) → IsOfGeometry g (empty_table places)
  empty_of places lists = record {
    lists = lists;
    numbers = record { ascending = λ i j d below within. absurd (omega arith); keys = All-nil _ };
    kinds = All-nil _;
    apart = record { components = λ i j d below within. absurd (omega arith); replicas = All-nil _ };
    alone = record { set = refl; pending = refl; pools = refl };
    quiet = refl;
  }

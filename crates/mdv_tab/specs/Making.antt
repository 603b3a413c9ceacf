-- Places that are made one after the other. Each makes a name or none and stands on names, and the names are numbers.
use Rattle.std.specs.Prelude.{◌≡◌, ◌≢◌, ◌<◌, ◌≤◌, ◌+◌, ◌⊎◌, ◌↔◌, ◌==◌, ℕ, Bool, true, false, if◌then◌else◌, Option, None, Some, List, [], ◌∷◌, length, map, take, slice_index, slice_index_or, sum_by, Contains}
use Rattle.mdv_tab.specs.Order.{IsNext}
use Rattle.mdv_tab.specs.declared.graph.Graph.{Graph}
use Rattle.mdv_tab.specs.declared.graph.Place.{Place}
use Rattle.mdv_tab.specs.declared.making.Making.{Making}

abbrev pub count_of : Graph → ℕ
count_of g = length g.places.items

abbrev pub name_count : Graph → ℕ
name_count g = length g.users.items

abbrev pub makes_of : Graph → List (Option ℕ)
makes_of g = map (λ p. p.makes) g.places.items

abbrev pub made_at : Graph → ℕ → Option ℕ
made_at g i = slice_index_or (makes_of g) i None

abbrev pub stands_at : Graph → ℕ → List ℕ
stands_at g i = slice_index_or (map (λ p. p.stands.items) g.places.items) i []

abbrev pub users_at : Graph → ℕ → List ℕ
users_at g x = slice_index_or (map (λ v. v.items) g.users.items) x []

-- another place makes a name that the place at i stands on
pub record NeedsIn (g : Graph) (i j : ℕ) : Type 0 where
  pub other : j ≢ i
  pub name : ℕ
  pub stands : Contains (stands_at g i) name
  pub made : made_at g j ≡ Some name

-- each name has its users: the places that stand on it
pub record IsGraph (g : Graph) : Type 0 where
  pub makes : (i x : ℕ) → made_at g i ≡ Some x → x < name_count g
  pub stands : (i x : ℕ) → Contains (stands_at g i) x → x < name_count g
  pub users : (i x : ℕ) → Contains (stands_at g i) x → Contains (users_at g x) i
  pub within : (i x : ℕ) → Contains (users_at g x) i → i < count_of g

-- the place isn't made yet
abbrev pub IsLeft : List Bool → ℕ → Type 0
IsLeft made i = slice_index_or made i true ≡ false

-- 1 where it is the name, else 0
abbrev pub count_name : Option ℕ → ℕ → ℕ
count_name None x = 0
count_name (Some y) x = if y == x then 1 else 0

-- how many of the places that are left make the name
abbrev pub makers_left : List (Option ℕ) → List Bool → ℕ → ℕ
makers_left [] made x = 0
makers_left (m ∷ ms) [] x = 0
makers_left (m ∷ ms) (done ∷ made) x = (if done then 0 else count_name m x) + makers_left ms made x

-- another place that is left makes the name
abbrev pub IsAwaited : Graph → List Bool → ℕ → ℕ → Type 0
IsAwaited g made i x = count_name (made_at g i) x < makers_left (makes_of g) made x

-- the place stands on such a name
abbrev pub IsBound : Graph → List Bool → ℕ → Type 0
IsBound g made i = (x : ℕ) × Contains (stands_at g i) x × IsAwaited g made i x

-- the place is left, and stands on no such name
abbrev pub IsFree : Graph → List Bool → ℕ → Type 0
IsFree g made i = IsLeft made i × (IsBound g made i → ⊥)

-- the names of the place from one index to another aren't awaited, and the next one is, or there is none
pub record IsFirstAwaited (p : Place) (left : List ℕ) (from to : ℕ) : Type 0 where
  pub within : to ≤ length p.stands.items
  pub passed : (k : ℕ) → from ≤ k → k < to → let x = slice_index p.stands.items k in slice_index left x ≤ count_name p.makes x
  pub found : to < length p.stands.items → let x = slice_index p.stands.items to in count_name p.makes x < slice_index left x

-- of each name it is known how many places that make it are left
pub record IsCounted (g : Graph) (made : List Bool) (left : List ℕ) : Type 0 where
  pub places : length made ≡ count_of g
  pub names : length left ≡ name_count g
  pub each : (x : ℕ) → x < name_count g → slice_index left x ≡ makers_left (makes_of g) made x

-- of each place that is left some first names were seen, for which it doesn't wait
pub record IsSeen (g : Graph) (made : List Bool) (seen : List ℕ) : Type 0 where
  pub same : length seen ≡ count_of g
  pub each : (i k : ℕ) → IsLeft made i → k < slice_index seen i → IsAwaited g made i (slice_index (stands_at g i) k) → ⊥

abbrev pub count_left : List Bool → ℕ
count_left [] = 0
count_left (made ∷ more) = (if made then 0 else 1) + count_left more

-- what is made so far
pub record IsPartOrder (needs : ℕ → ℕ → Type 0) (count : ℕ) (made : List Bool) (order : List ℕ) : Type 0 where
  pub same : length made ≡ count
  pub left : (i : ℕ) → IsLeft made i → Contains order i → ⊥
  pub taken : (i : ℕ) → i < count → (IsLeft made i → ⊥) → Contains order i
  pub fewer : count_left made + length order ≡ count
  pub each : (k : ℕ) → k < length order → IsNext needs count (take k order) (slice_index order k)

pub record IsSoFar (g : Graph) (m : Making) : Type 0 where
  pub order : IsPartOrder (NeedsIn g) (count_of g) m.made.items m.order.items
  pub counted : IsCounted g m.made.items m.left.items
  pub seen : IsSeen g m.made.items m.seen.items

-- each place that is left stands in the queue or waits for another one
pub record IsQueued (g : Graph) (made : List Bool) (queue : List ℕ) : Type 0 where
  pub within : (i : ℕ) → Contains queue i → i < count_of g
  pub each : (i : ℕ) → IsLeft made i → Contains queue i ⊎ IsBound g made i

-- so it is, but for the place that was taken from the queue
pub record IsQueuedBut (g : Graph) (made : List Bool) (queue : List ℕ) (place : ℕ) : Type 0 where
  pub within : (i : ℕ) → Contains queue i → i < count_of g
  pub each : (i : ℕ) → IsLeft made i → Contains queue i ⊎ ((place ≡ i) ⊎ IsBound g made i)

-- the first of the free places was taken, or none where all that are left wait
abbrev pub IsTaken : Graph → List Bool → Option ℕ → Type 0
IsTaken g made None = (i : ℕ) → IsLeft made i → IsBound g made i
IsTaken g made (Some x) = IsFree g made x × ((i : ℕ) → i < x → IsLeft made i → IsBound g made i)

-- the users of a name are queued, where no more than one place is left to make it
pub record IsPassed (users : List ℕ) (left : ℕ) (old new : List ℕ) : Type 0 where
  pub keeps : (i : ℕ) → Contains old i → Contains new i
  pub adds : left ≤ 1 → (i : ℕ) → Contains users i → Contains new i
  pub none_else : (i : ℕ) → Contains new i → Contains old i ⊎ Contains users i

abbrev pub IsRest : Graph → List Bool → List ℕ → Option ℕ → Type 0
IsRest g made queue None = IsQueued g made queue
IsRest g made queue (Some x) = IsQueuedBut g made queue x

-- one place fewer is left
abbrev pub MakesOne : List Bool → List Bool → Type 0
MakesOne old new = (count_left new + 1 ≡ count_left old) × ((i : ℕ) → IsLeft new i → IsLeft old i)

-- the places below it are made
abbrev pub AreMade : List Bool → ℕ → Type 0
AreMade made n = (i : ℕ) → i < n → IsLeft made i → ⊥

-- they are the numbers below n
abbrev pub IsEach : List ℕ → ℕ → Type 0
IsEach is n = (i : ℕ) → Contains is i ↔ (i < n)

-- how many places make the name
abbrev pub makers_of : Graph → ℕ → ℕ
makers_of g x = sum_by (λ m. count_name m x) (makes_of g)

-- The moments of calls: after each call, and in the middle of a giving after each byte.
use Rattle.std.specs.Prelude.{◌≡◌, ℕ, ◌≤◌, List, [], ◌∷◌, Option, Some}
use Rattle.mdv_shelf.specs.Tale.{Tale, Then, Call, Wrote, Tore, Synced, Gave}

-- a tale with more calls, the newest of them first
abbrev pub extended : Tale → List Call → Tale
extended t [] = t
extended t (c ∷ cs) = Then (extended t cs) c

-- the one tale is the other with more calls, or none
abbrev pub IsSince : Tale → Tale → Type 0
IsSince t u = (calls : List Call) × (u ≡ extended t calls)

-- P at each moment of one call. A write and a sync have no moment of their own inside: what a crash
-- may leave there, it may leave before the call or after it.
abbrev pub During : (Tale → Type 0) → Tale → Call → Type 0
During P t (Gave piece count) = (k : ℕ) → k ≤ count → P (Then t (Gave piece k))
During P t (Wrote drive at blocks) = P (Then t (Wrote drive at blocks))
During P t (Tore drive at blocks took) = P (Then t (Tore drive at blocks took))
During P t (Synced drive) = P (Then t (Synced drive))

-- P before these calls and at each moment of them
abbrev pub Along : (Tale → Type 0) → Tale → List Call → Type 0
Along P t [] = P t
Along P t (c ∷ cs) = Along P t cs × During P (extended t cs) c

-- calls led from t to u, and P held at each moment
pub record Grew (P : Tale → Type 0) (t u : Tale) : Type 0 where
  pub calls : List Call
  pub led : u ≡ extended t calls
  pub each : Along P t calls

-- From what a shelf told to what it tells: R holds, relative to the start, at each moment. It says
-- nothing of a shelf that tells nothing.
abbrev pub Moments : (Tale → Tale → Type 0) → Option Tale → Option Tale → Type 0
Moments R old new = (t : Tale) → old ≡ Some t → (u : Tale) × (new ≡ Some u) × Grew (R t) t u

-- Q holds at the end, relative to the start
abbrev pub Ends : (Tale → Tale → Type 0) → Option Tale → Option Tale → Type 0
Ends Q old new = (t : Tale) → old ≡ Some t → (u : Tale) × (new ≡ Some u) × Q t u

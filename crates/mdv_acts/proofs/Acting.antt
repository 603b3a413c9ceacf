-- How acts on places go on, one behind another.
use Rattle.std.proofs.Common.{◌≡◌, ◌⊎◌, inl, inr, false, ℕ, zero, suc, ◌+◌, ◌-◌, ◌<◌, List, [], ◌∷◌, ◌++◌, length, take, drop, slice_index_or, Contains, Option, refl, sym, ◌∙◌, ap, subst, append_assoc, append-nil, arith}
use Rattle.std.specs.Prelude.{flat_map, Result, Ok, Err, OnErr}
use Rattle.std.proofs.lemmas.Bool.{cases_eq}
use Rattle.std.proofs.lemmas.List.{take_more}
use Rattle.std.proofs.lemmas.List.Concat.{flat_map-append}
use Rattle.mdv_base.specs.Causes.{RoseOnce}
use Rattle.mdv_shelf.specs.Calls.{Part, OnDrive, OnReplies}
use Rattle.mdv_shelf.specs.Drives.{KeptAmong}
use Rattle.mdv_shelf.specs.Moments.{Ends, Moments}
use Rattle.mdv_shelf.specs.Shelves.{AtEachTale, AtEnd, DriveFailures, KeptOn}
use Rattle.mdv_shelf.specs.Story.{InTime}
use Rattle.mdv_shelf.proofs.Among.{among_none, among_then, among_wider}
use Rattle.mdv_shelf.proofs.Between.{between_none, between_of, between_then, between_wider}
use Rattle.mdv_shelf.proofs.Counts.{took_more}
use Rattle.mdv_shelf.proofs.InTime.{in_time_more}
use Rattle.mdv_shelf.proofs.Moments.{ends_both, ends_more, moments_after, moments_end, moments_none, moments_weaker}
use Rattle.mdv_shelf.proofs.Noted.{goes_on_more, keeps_more}
use Rattle.mdv_acts.specs.Acts.{Act, AreDoing, AreDone, HaveGone, HaveStopped, IsDoing, IsDone, MadeCallsBetween, Makes, blanks_behind, blocks_of, calls_of, form_on, forms_from, Blanks}
use Rattle.mdv_acts.specs.Below.{DriveNo, Ghosts, Identity, Key, SliceLine, Tale, place_on}

-- At each moment, and in the end.
pub doing_here : (acts : List Act) (t : Tale) → AreDoing acts t t
doing_here [] t = refl
doing_here (a ∷ acts) t = inl refl

pub doing_front : (xs ys : List Act) (t m : Tale) → AreDoing xs t m → AreDoing (xs ++ ys) t m
doing_front [] ys t m is = subst (λ (u : Tale). AreDoing ys t u) (sym is) (doing_here ys t)
doing_front (a ∷ xs) ys t m (inl is) = inl is
doing_front (a ∷ xs) ys t m (inr (inl is)) = inr (inl is)
doing_front (a ∷ xs) ys t m (inr (inr is)) = inr (inr (is.0, is.1, doing_front xs ys is.0 m is.2))

pub doing_behind : (xs ys : List Act) (t u m : Tale) → AreDone xs t u → AreDoing ys u m → AreDoing (xs ++ ys) t m
doing_behind [] ys t u m done is = subst (λ (v : Tale). AreDoing ys v m) done is
doing_behind (a ∷ xs) ys t u m done is = inr (inr (done.0, done.1, doing_behind xs ys done.0 u m done.2 is))

pub done_more : (xs ys : List Act) (t u v : Tale) → AreDone xs t u → AreDone ys u v → AreDone (xs ++ ys) t v
done_more [] ys t u v one two = subst (λ (w : Tale). AreDone ys w v) one two
done_more (a ∷ xs) ys t u v one two = (one.0, one.1, done_more xs ys one.0 u v one.2 two)

-- apart again
pub doing_split : (xs ys : List Act) (t m : Tale) → AreDoing (xs ++ ys) t m → AreDoing xs t m ⊎ ((u : Tale) × AreDone xs t u × AreDoing ys u m)
doing_split [] ys t m is = inr (t, refl, is)
doing_split (a ∷ xs) ys t m (inl is) = inl (inl is)
doing_split (a ∷ xs) ys t m (inr (inl is)) = inl (inr (inl is))
doing_split (a ∷ xs) ys t m (inr (inr is)) = elim (doing_split xs ys is.0 m is.2) [
  | inl front ↦ inl (inr (inr (is.0, is.1, front)))
  | inr behind ↦ inr (behind.0, (is.0, is.1, behind.1), behind.2)
]

pub done_split : (xs ys : List Act) (t v : Tale) → AreDone (xs ++ ys) t v → (u : Tale) × AreDone xs t u × AreDone ys u v
done_split [] ys t v is = (t, refl, is)
done_split (a ∷ xs) ys t v is = (let rest = done_split xs ys is.0 v is.2 in (rest.0, (is.0, is.1, rest.1), rest.2))

-- How many calls, and how many blocks.
pub calls_more : (xs ys : List Act) → calls_of (xs ++ ys) ≡ calls_of xs + calls_of ys
calls_more [] ys = omega arith
calls_more (a ∷ xs) ys = omega (arith, calls_more xs ys)

pub blocks_more : (xs ys : List Act) → blocks_of (xs ++ ys) ≡ blocks_of xs + blocks_of ys
blocks_more [] ys = omega arith
blocks_more (a ∷ xs) ys = omega (arith, blocks_more xs ys)

-- drives of one number are one
same_drive : (a b : DriveNo) → a.0 ≡ b.0 → a ≡ b
same_drive a b same = λ i. record { 0 = same i }

no_replies : (n : ℕ) → OnReplies ≡ OnDrive n → ⊥
no_replies n e = cc

one_number : (a b : ℕ) → OnDrive a ≡ OnDrive b → a ≡ b
one_number a b same = cc (same)

module _ {S : Type 0} (shelf : Ghosts S) where
  -- where no call on a drive failed none did
  calm_all : (a b : S) (drives : List DriveNo) → ((drive : ℕ) → (DriveFailures shelf a b drive).none) → KeptAmong shelf a b drives → (part : Part) → shelf.faults b part ≡ shelf.faults a part
  calm_all a b drives calm kept (OnDrive n) = calm n
  calm_all a b drives calm kept OnReplies = kept.others OnReplies (λ one. no_replies one.0.0 one.2)

  -- calls on some drives behind such a stretch
  pub among_more : (a b c : S) (drives : List DriveNo) → ((drive : ℕ) → (DriveFailures shelf a b drive).none) → KeptAmong shelf a b drives → KeptAmong shelf b c drives → KeptAmong shelf a c drives
  among_more a b c drives calm first second = record {
    keeps = keeps_more shelf a b c first.keeps second.keeps;
    goes = goes_on_more shelf a b c first.goes second.goes;
    in_time = λ part. in_time_more part (shelf.faults a part) (shelf.story a) (shelf.story b) (shelf.story c) (first.in_time part)
        (subst (λ (n : ℕ). InTime part n (shelf.story b) (shelf.story c)) (calm_all a b drives calm first part) (second.in_time part));
    others = λ other out. second.others other out ∙ first.others other out;
    elsewhere = λ other out count. in_time_more other count (shelf.story a) (shelf.story b) (shelf.story c) (first.elsewhere other out count) (second.elsewhere other out count);
  }

  among_on : (a b : S) (drive : DriveNo) → KeptOn shelf a b (OnDrive drive.0) → KeptAmong shelf a b (drive ∷ [])
  among_on a b drive on = among_then shelf a a b (drive ∷ []) drive (0, omega arith, refl) refl (among_none shelf a (drive ∷ [])) on

  makes_more : (xs ys : List Act) (a b c : S) → Makes shelf a b xs → Makes shelf b c ys → Makes shelf a c (xs ++ ys)
  makes_more [] ys a b c one two = subst (λ (s : S). Makes shelf s c ys) one two
  makes_more (x ∷ xs) [] a b c one two = subst (λ (l : List Act). Makes shelf a c l) (sym (append-nil (x ∷ xs))) (subst (λ (s : S). Makes shelf a s (x ∷ xs)) (sym two) one)
  makes_more (x ∷ xs) (y ∷ ys) a b c one two =
      took_more shelf.calls shelf.written a b c (calls_of (x ∷ xs)) (calls_of (y ∷ ys)) (blocks_of (x ∷ xs)) (blocks_of (y ∷ ys)) (calls_of ((x ∷ xs) ++ (y ∷ ys))) (blocks_of ((x ∷ xs) ++ (y ∷ ys)))
      (sym (calls_more (x ∷ xs) (y ∷ ys))) (sym (blocks_more (x ∷ xs) (y ∷ ys))) one two

  pub between_makes : (acts : List Act) (a b : S) → Makes shelf a b acts → MadeCallsBetween shelf a b 0 (calls_of acts) (blocks_of acts)
  between_makes [] a b same = between_none shelf.calls shelf.written a b 0 0 same
  between_makes (x ∷ xs) a b took = between_of shelf.calls shelf.written a b (calls_of (x ∷ xs)) (blocks_of (x ∷ xs)) 0 (calls_of (x ∷ xs)) (blocks_of (x ∷ xs)) (omega arith) (omega arith) (omega arith) took

  -- nothing is done
  pub gone_none : (a : S) (drives : List DriveNo) → HaveGone shelf a a drives []
  gone_none a drives = record {
    moments = moments_none (AreDoing []) (shelf.tale a) (shelf.tale a) refl (λ t. refl);
    end = λ t is. (t, is, refl);
    calm = λ drive. refl;
    made = refl;
    kept = among_none shelf a drives;
  }

  -- One stretch behind another.
  module _ (drives : List DriveNo) (xs ys : List Act) (a b : S) where
    module _ (c : S) (first : HaveGone shelf a b drives xs) where
      both_moments : AtEachTale shelf (AreDoing ys) b c → AtEachTale shelf (AreDoing (xs ++ ys)) a c
      both_moments second =
          moments_after (AreDoing xs) (AreDone xs) (AreDoing ys) (AreDoing (xs ++ ys)) (shelf.tale a) (shelf.tale b) (shelf.tale c) (λ t m is. doing_front xs ys t m is) (λ t u m done is. doing_behind xs ys t u m done is) first.moments first.end second

      pub gone_then : HaveGone shelf b c drives ys → HaveGone shelf a c drives (xs ++ ys)
      gone_then second = record {
        moments = both_moments second.moments;
        end = ends_more (AreDone xs) (AreDone ys) (AreDone (xs ++ ys)) (shelf.tale a) (shelf.tale b) (shelf.tale c) (λ t u v one two. done_more xs ys t u v one two) first.end second.end;
        calm = λ drive. second.calm drive ∙ first.calm drive;
        made = makes_more xs ys a b c first.made second.made;
        kept = among_more a b c drives first.calm first.kept second.kept;
      }

      pub stopped_then : HaveStopped shelf b c drives ys → HaveStopped shelf a c drives (xs ++ ys)
      stopped_then second = record {
        moments = both_moments second.moments;
        drive = second.drive;
        one_of = second.one_of;
        here = subst (λ (n : ℕ). RoseOnce n (shelf.faults c (OnDrive second.drive.0))) (first.calm second.drive.0) second.here;
        elsewhere = λ other differs. second.elsewhere other differs ∙ first.calm other.0;
        made = between_then shelf.calls shelf.written a b c 0 (calls_of xs) (blocks_of xs) 1 (calls_of ys) (blocks_of ys) 1 (calls_of (xs ++ ys)) (blocks_of (xs ++ ys)) (omega arith)
            (omega (arith, calls_more xs ys)) (omega (arith, blocks_more xs ys)) (between_makes xs a b first.made) second.made;
        kept = among_more a b c drives first.calm first.kept second.kept;
      }

    pub stopped_front : HaveStopped shelf a b drives xs → HaveStopped shelf a b drives (xs ++ ys)
    stopped_front first = record {
      moments = moments_weaker (AreDoing xs) (AreDoing (xs ++ ys)) (shelf.tale a) (shelf.tale b) (λ t m is. doing_front xs ys t m is) first.moments;
      drive = first.drive;
      one_of = first.one_of;
      here = first.here;
      elsewhere = first.elsewhere;
      made = between_wider shelf.calls shelf.written a b 1 (calls_of xs) (blocks_of xs) 1 (calls_of (xs ++ ys)) (blocks_of (xs ++ ys)) (omega arith) (omega (arith, calls_more xs ys)) (omega (arith, blocks_more xs ys)) first.made;
      kept = first.kept;
    }

  -- of more drives
  module _ (a b : S) (acts : List Act) (small large : List DriveNo) (within : (drive : DriveNo) → Contains small drive → Contains large drive) where
    pub gone_wider : HaveGone shelf a b small acts → HaveGone shelf a b large acts
    gone_wider gone = record { moments = gone.moments; end = gone.end; calm = gone.calm; made = gone.made; kept = among_wider shelf a b small large within gone.kept }

    pub stopped_wider : HaveStopped shelf a b small acts → HaveStopped shelf a b large acts
    stopped_wider stopped = record {
      moments = stopped.moments;
      drive = stopped.drive;
      one_of = within stopped.drive stopped.one_of;
      here = stopped.here;
      elsewhere = stopped.elsewhere;
      made = stopped.made;
      kept = among_wider shelf a b small large within stopped.kept;
    }

  -- One act.
  module _ (act : Act) (drive : DriveNo) (a b : S) (moments : AtEachTale shelf (IsDoing act) a b) (on : KeptOn shelf a b (OnDrive drive.0)) where
    one_moments : AtEachTale shelf (AreDoing (act ∷ [])) a b
    one_moments = moments_weaker (IsDoing act) (AreDoing (act ∷ [])) (shelf.tale a) (shelf.tale b) (λ t m is. inr (inl is)) moments

    pub one_gone : AtEnd shelf (IsDone act) a b → (DriveFailures shelf a b drive.0).none → Makes shelf a b (act ∷ []) → HaveGone shelf a b (drive ∷ []) (act ∷ [])
    one_gone end calm made = record {
      moments = one_moments;
      end = λ t is. (let one = end t is in (one.0, one.1, (one.0, one.2, refl)));
      calm = λ n. elim (cases_eq n drive.0) [
        | inl same ↦ subst (λ (m : ℕ). shelf.faults b (OnDrive m) ≡ shelf.faults a (OnDrive m)) (sym same) calm
        | inr other ↦ on.others (OnDrive n) (λ e. other (one_number n drive.0 e))
      ];
      made = made;
      kept = among_on a b drive on;
    }

    pub one_stopped : (DriveFailures shelf a b drive.0).some → MadeCallsBetween shelf a b 1 (calls_of (act ∷ [])) (blocks_of (act ∷ [])) → HaveStopped shelf a b (drive ∷ []) (act ∷ [])
    one_stopped some made = record {
      moments = one_moments;
      drive = drive;
      one_of = (0, omega arith, refl);
      here = some;
      elsewhere = λ other differs. on.others (OnDrive other.0) (λ e. differs (same_drive other drive (one_number other.0 drive.0 e)));
      made = made;
      kept = among_on a b drive on;
    }

pub both_ends : (Q R : Tale → Tale → Type 0) (a b : Option Tale) → Moments Q a b → Ends R a b → Ends (λ t u. Q t u × R t u) a b
both_ends Q R a b moments end = ends_both Q R (λ t u. Q t u × R t u) a b (λ t u q r. (q, r)) (moments_end Q a b moments) end

-- what a loop over slices reads past their end
abbrev pub no_line : SliceLine
no_line = record { name = record { drive = record { controller = 0; target = 0; disk = 0 }; slice = 0 }; at = record { drive = record { 0 = 0 }; start = 0; blocks = 0; db = false } }

pub on_err : {T E : Type 0} (result : Result T E) (P : Type 0) → P → OnErr result P
on_err (Ok done) P is = tt
on_err (Err fault) P is = is

-- Lists of acts.
pub flat_more : {X Y : Type 0} (f : X → List Y) (xs : List X) (i : ℕ) (d : X) → i < length xs → flat_map f (take (i + 1) xs) ≡ flat_map f (take i xs) ++ f (slice_index_or xs i d)
flat_more f xs i d within =
    let x = slice_index_or xs i d in
    ap (flat_map f) (take_more xs i d within) ∙ flat_map-append f (take i xs) (x ∷ []) ∙ ap (λ (l : List _). flat_map f (take i xs) ++ l) (append-nil (f x))

pub flat_at : {X Y : Type 0} (f : X → List Y) (xs : List X) (i : ℕ) (d : X) → i < length xs → flat_map f xs ≡ (flat_map f (take i xs) ++ f (slice_index_or xs i d)) ++ flat_map f (drop (i + 1) xs)
flat_at f [] i d within = absurd (omega arith)
flat_at f (x ∷ xs) zero d within = refl
flat_at f (x ∷ xs) (suc i) d within =
    let next : suc (i + 1) ≡ suc i + 1 = omega arith in
    ap (λ (l : List _). f x ++ l) (flat_at f xs i d (omega arith)) ∙ sym (append_assoc (f x) (flat_map f (take i xs) ++ f (slice_index_or xs i d)) (flat_map f (drop (i + 1) xs)))
    ∙ ap (λ (l : List _). l ++ flat_map f (drop (i + 1) xs)) (sym (append_assoc (f x) (flat_map f (take i xs)) (f (slice_index_or xs i d))))
    ∙ ap (λ (n : ℕ). (flat_map f (take (suc i) (x ∷ xs)) ++ f (slice_index_or xs i d)) ++ flat_map f (drop n (x ∷ xs))) next

pub behind_step : (line : SliceLine) (count blocks n : ℕ) → 0 < n → blanks_behind line count blocks n ≡ Blanks (place_on line blocks count n) ∷ blanks_behind line count blocks (n - 1)
behind_step line count blocks zero some = absurd (omega arith)
behind_step line count blocks (suc n) some =
    let one : n + 1 ≡ suc n = omega arith in
    let less : n ≡ suc n - 1 = omega arith in
    λ i. Blanks (place_on line blocks count (one i)) ∷ blanks_behind line count blocks (less i)

module _ (key : Key) (identity : Identity) (claim : ℕ) (line : SliceLine) (count blocks : ℕ) where
  -- as many as these, and then those behind them
  pub forms_more : (k m n : ℕ) → forms_from key identity claim line count blocks k (m + n) ≡ forms_from key identity claim line count blocks k m ++ forms_from key identity claim line count blocks (k + m) n
  forms_more k zero n =
      let none : zero + n ≡ n = omega arith in
      let same : k ≡ k + zero = omega arith in
      λ i. forms_from key identity claim line count blocks (same i) (none i)
  forms_more k (suc m) n =
      let shift : k + 1 + m ≡ k + suc m = omega arith in
      let next : suc m + n ≡ suc (m + n) = omega arith in
      ap (λ (s : ℕ). forms_from key identity claim line count blocks k s) next
      ∙ ap (λ (l : List Act). form_on key identity claim line count blocks k ∷ l) (forms_more (k + 1) m n ∙ ap (λ (s : ℕ). forms_from key identity claim line count blocks (k + 1) m ++ forms_from key identity claim line count blocks s n) shift)

  pub forms_next : (n : ℕ) → forms_from key identity claim line count blocks 0 (n + 1) ≡ forms_from key identity claim line count blocks 0 n ++ form_on key identity claim line count blocks n ∷ []
  forms_next n =
      let from : 0 + n ≡ n = omega arith in
      forms_more 0 n 1 ∙ ap (λ (s : ℕ). forms_from key identity claim line count blocks 0 n ++ form_on key identity claim line count blocks s ∷ []) from

  -- the front of them
  pub forms_front : (n : ℕ) → n < count → forms_from key identity claim line count blocks 0 count ≡ (forms_from key identity claim line count blocks 0 n ++ form_on key identity claim line count blocks n ∷ []) ++ forms_from key identity claim line count blocks (n + 1) (count - (n + 1))
  forms_front n below =
      let all : count ≡ (n + 1) + (count - (n + 1)) = omega arith in
      let from : 0 + (n + 1) ≡ n + 1 = omega arith in
      ap (λ (s : ℕ). forms_from key identity claim line count blocks 0 s) all ∙ forms_more 0 (n + 1) (count - (n + 1))
      ∙ ap (λ (s : ℕ). forms_from key identity claim line count blocks 0 (n + 1) ++ forms_from key identity claim line count blocks s (count - (n + 1))) from
      ∙ ap (λ (l : List Act). l ++ forms_from key identity claim line count blocks (n + 1) (count - (n + 1))) (forms_next n)

-- Drives that are brought up one after another.
use Rattle.std.proofs.Common.{◌≡◌, ◌≢◌, ◌⊎◌, inl, inr, ℕ, ◌+◌, ◌≤◌, ◌<◌, Bool, true, false, List, [], ◌∷◌, ◌++◌, length, take, slice_index_or, Contains, Some, Ok, Err, refl, sym, ◌∙◌, ap, subst, cond, arith, Option}
use Rattle.std.specs.Prelude.{count_by, slice_get}
use Rattle.std.specs.Bool.{MatchBool}
use Rattle.std.proofs.lemmas.Bool.{cases_eq}
use Rattle.std.proofs.lemmas.List.Elements.{Contains-push, Contains-push_cases, Contains-append_left, Contains-append_right}
use Rattle.std.proofs.lemmas.List.{get_or-take, length-take, length_push}
use Rattle.std.proofs.lemmas.Option.{slice_get-get_or}
use Rattle.std.proofs.lemmas.List.Sums.{sum_by-append}
use Rattle.mdv_base.specs.Causes.{HasCause, RoseOnce}
use Rattle.mdv_base.specs.declared.drive.DriveNo.{DriveNo}
use Rattle.mdv_base.specs.DriveSet.{Drives, has_drive}
use Rattle.mdv_shelf.specs.Calls.{OnDrive}
use Rattle.mdv_shelf.specs.Drives.{IsAmong, KeptAmong}
use Rattle.mdv_survey.specs.Counts.{MadeReads}
use Rattle.mdv_shelf.specs.Shelves.{AtEachTale, AtEnd, DriveFailures, KeptOn}
use Rattle.mdv_shelf.proofs.Among.{among_none, among_then, among_wider}
use Rattle.mdv_shelf.proofs.Moments.{ends_more, moments_more, moments_none}
use Rattle.mdv_shelf.proofs.Settled.{synced_drive, synced_still, told_synced}
use Rattle.mdv_shelf.proofs.Blocks.{kept_unwritten}
use Rattle.mdv_shelf.specs.Calls.{and_then}
use Rattle.mdv_look.specs.Below.{Ghosts, IsSynced, Synced, Tale, Then}
use Rattle.mdv_look.specs.Bringing.{AreSynced, AreTriedBy, AreUpBy, BringingEnds, IsBringingCounted, IsDriveTried, IsTryCounted, brought_up}
use Rattle.mdv_look.specs.Quiet.{WritesNothing}
use Rattle.mdv_look.proofs.Few.{reads_more}
use Rattle.mdv_look.proofs.Quiet.{unwritten_more, unwritten_same, unwritten_synced}

-- drives of one number are one
pub same_drive : (a b : DriveNo) → a.0 ≡ b.0 → a ≡ b
same_drive a b same = λ i. record { 0 = same i }

pub one_number : (a b : ℕ) → OnDrive a ≡ OnDrive b → a ≡ b
one_number a b same = cc (same)

pub is_drive : (a b : DriveNo) → (a ≡ b) ⊎ (a ≢ b)
is_drive a b = elim (cases_eq a.0 b.0) [ inl same ↦ inl (same_drive a b same) | inr other ↦ inr (λ e. other (ap (λ (d : DriveNo). d.0) e)) ]

unwritten_sync : (drive : ℕ) (t : Tale) → WritesNothing t (Then t (Synced drive))
unwritten_sync drive t = record { outside = λ other block out. kept_unwritten t (Synced drive) other block refl; quiet = told_synced t drive }

-- of drives that are named once none is in front of itself
pub fresh_at : (drives : List DriveNo) (k : ℕ) (d : DriveNo) → ((i j : ℕ) (drive : DriveNo) → slice_get drives i ≡ Some drive → slice_get drives j ≡ Some drive → i ≡ j) → k < length drives → Contains (take k drives) (slice_index_or drives k d) → ⊥
fresh_at drives k d once within one_of =
    let drive = slice_index_or drives k d in
    let few = length-take k drives in
    let below : one_of.0 < k = omega (arith, few, one_of.1, within) in
    let at : slice_index_or drives one_of.0 drive ≡ drive = sym (get_or-take k drives one_of.0 drive below) ∙ one_of.2 in
    let first : slice_get drives one_of.0 ≡ Some drive = slice_get-get_or drives one_of.0 drive (omega (arith, below, within)) ∙ ap (λ (x : DriveNo). Some x) at in
    let same = once one_of.0 k drive first (slice_get-get_or drives k d within) in
    absurd (omega (arith, below, same))

-- how many of a list pass
pub count_cons : {X : Type 0} (p : X → Bool) (x : X) (xs : List X) → count_by p (x ∷ xs) ≡ cond (p x) 1 0 + count_by p xs
count_cons p x xs = sum_by-append (λ y. cond (p y) 1 0) (x ∷ []) xs ∙ omega arith

count_push : {X : Type 0} (p : X → Bool) (xs : List X) (x : X) → count_by p (xs ++ x ∷ []) ≡ count_by p xs + cond (p x) 1 0
count_push p xs x = sum_by-append (λ y. cond (p y) 1 0) xs (x ∷ []) ∙ omega arith

-- where two tests agree on each of them
count_same : {X : Type 0} (p q : X → Bool) (xs : List X) → ((x : X) → Contains xs x → p x ≡ q x) → count_by p xs ≡ count_by q xs
count_same p q [] same = refl
count_same p q (x ∷ xs) same =
    let here : p x ≡ q x = same x (Contains-append_left (x ∷ []) xs x (Contains-push [] x)) in
    let rest = count_same p q xs (λ y one_of. same y (Contains-append_right (x ∷ []) xs y one_of)) in
    count_cons p x xs ∙ ap (λ (b : Bool). cond b 1 0 + count_by p xs) here ∙ ap (λ (n : ℕ). cond (q x) 1 0 + n) rest ∙ sym (count_cons q x xs)

-- what was done to one drive, and whether it came up
pub record TriedEnds (drive : DriveNo) (up : Bool) (u v : Tale) : Type 0 where
  pub tale : v ≡ cond up (Then u (Synced drive.0)) u
  pub unwritten : WritesNothing u v
  pub synced : up ≡ true → IsSynced drive.0 v

-- the last of the drives is brought up behind the others
brought_push : (up : Drives) (drives : List DriveNo) (drive : DriveNo) (t : Tale) → brought_up up (drives ++ drive ∷ []) t ≡ cond (has_drive up drive) (Then (brought_up up drives t) (Synced drive.0)) (brought_up up drives t)
brought_push up [] drive t = refl
brought_push up (first ∷ drives) drive t = brought_push up drives drive (cond (has_drive up first) (Then t (Synced first.0)) t)

-- by any set that agrees on them
brought_same : (up later : Drives) (drives : List DriveNo) (t : Tale) → ((drive : DriveNo) → Contains drives drive → has_drive later drive ≡ has_drive up drive) → brought_up later drives t ≡ brought_up up drives t
brought_same up later [] t same = refl
brought_same up later (first ∷ drives) t same =
    let here = same first (Contains-append_left (first ∷ []) drives first (Contains-push [] first)) in
    let behind : (drive : DriveNo) → Contains drives drive → has_drive later drive ≡ has_drive up drive = λ drive one_of. same drive (Contains-append_right (first ∷ []) drives drive one_of) in
    brought_same up later drives (cond (has_drive later first) (Then t (Synced first.0)) t) behind ∙ ap (λ (b : Bool). brought_up up drives (cond b (Then t (Synced first.0)) t)) here

module _ {S : Type 0} (shelf : Ghosts S) where
  pub record Tried (now next : S) (drive : DriveNo) (up : Bool) : Type 0 where
    pub cause : MatchBool up (shelf.faults next (OnDrive drive.0) ≡ shelf.faults now (OnDrive drive.0)) (RoseOnce (shelf.faults now (OnDrive drive.0)) (shelf.faults next (OnDrive drive.0)))
    pub moments : AtEachTale shelf WritesNothing now next
    pub end : AtEnd shelf (TriedEnds drive up) now next
    pub calls : ℕ
    pub least : 1 + cond up 1 0 ≤ calls
    pub most : calls ≤ 2
    pub made : MadeReads shelf now next calls
    pub tried : IsDriveTried shelf now next drive up

  module _ (now next : S) (drive : DriveNo) (kept : KeptOn shelf now next (OnDrive drive.0)) where
    pub tried_well : {T E : Type 0} (done : T) → HasCause {E = E} (shelf.faults now (OnDrive drive.0)) (shelf.faults next (OnDrive drive.0)) (Ok done) → shelf.tale next ≡ and_then (shelf.tale now) (Synced drive.0) → IsTryCounted {E = E} shelf now next drive.0 (Ok done) → Tried now next drive true
    tried_well done cause tale counted = record {
      cause = cause.calm;
      moments = unwritten_synced drive.0 (shelf.tale now) (shelf.tale next) tale;
      end = λ t is. (
        Then t (Synced drive.0),
        tale ∙ ap (λ (o : Option Tale). and_then o (Synced drive.0)) is,
        record { tale = refl; unwritten = unwritten_sync drive.0 t; synced = λ so. synced_drive t drive.0 },
      );
      calls = 2;
      least = omega arith;
      most = omega arith;
      made = counted;
      tried = record { came = (cause.calm, counted); kept = kept };
    }

    pub tried_badly : {T E : Type 0} (fault : E) → HasCause {T = T} (shelf.faults now (OnDrive drive.0)) (shelf.faults next (OnDrive drive.0)) (Err fault) → shelf.tale next ≡ shelf.tale now → IsTryCounted {T = T} shelf now next drive.0 (Err fault) → Tried now next drive false
    tried_badly fault cause tale counted = record {
      cause = cause.failed;
      moments = moments_none WritesNothing (shelf.tale now) (shelf.tale next) tale unwritten_same;
      end = λ t is. (t, tale ∙ is, record { tale = refl; unwritten = unwritten_same t; synced = λ so. absurd (cc (so)) });
      calls = counted.0.calls + 1;
      least = omega arith;
      most = omega (arith, counted.1);
      made = reads_more shelf now counted.0.failing next counted.0.calls 1 (counted.0.calls + 1) refl counted.0.before counted.0.made;
      tried = record { came = counted; kept = kept };
    }

  -- by any set that agrees on them
  tried_same : (up later : Drives) (drives : List DriveNo) (a b : S) → ((drive : DriveNo) → Contains drives drive → has_drive later drive ≡ has_drive up drive) → AreTriedBy shelf a b drives up → AreTriedBy shelf a b drives later
  tried_same up later [] a b same none = none
  tried_same up later (first ∷ drives) a b same (mid, here, rest) = (
    mid,
    subst (λ (is_up : Bool). IsDriveTried shelf a mid first is_up) (sym (same first (Contains-append_left (first ∷ []) drives first (Contains-push [] first)))) here,
    tried_same up later drives mid b (λ drive one_of. same drive (Contains-append_right (first ∷ []) drives drive one_of)) rest,
  )

  -- the last of them is tried behind the others
  tried_push : (up : Drives) (drives : List DriveNo) (drive : DriveNo) (a b c : S) → AreTriedBy shelf a b drives up → IsDriveTried shelf b c drive (has_drive up drive) → AreTriedBy shelf a c (drives ++ drive ∷ []) up
  tried_push up [] drive a b c none here = (c, subst (λ (s : S). IsDriveTried shelf s c drive (has_drive up drive)) none here, refl)
  tried_push up (first ∷ drives) drive a b c (mid, was, rest) here = (mid, was, tried_push up drives drive mid b c rest here)

  module _ (old : S) where
    -- the drives in front were brought up
    pub record SoFar (now : S) (front : List DriveNo) (up : Drives) : Type 0 where
      pub ups : AreUpBy (DriveFailures shelf old now) front up
      pub moments : AtEachTale shelf WritesNothing old now
      pub end : AtEnd shelf (BringingEnds up front) old now
      pub counted : IsBringingCounted shelf old now front up
      pub kept : KeptAmong shelf old now front

    pub so_far_none : (up : Drives) → ((drive : DriveNo) → has_drive up drive ≡ false) → SoFar old [] up
    so_far_none up none = record {
      ups = record { each = λ drive one_of. absurd (omega (arith, one_of.1)); others = λ drive out. none drive };
      moments = moments_none WritesNothing (shelf.tale old) (shelf.tale old) refl unwritten_same;
      end = λ t is. (t, is, record { tale = refl; synced = λ drive so. absurd (cc (so, none drive)) });
      counted = record { calls = 0; by = record { least = omega arith; most = omega arith }; made = refl; steps = refl };
      kept = among_none shelf old [];
    }

    -- one drive more
    module _ (now next : S) (front : List DriveNo) (drive : DriveNo) (up later : Drives) (fresh : Contains front drive → ⊥) (so_far : SoFar now front up)
        (tried : Tried now next drive (has_drive later drive)) (same : (other : DriveNo) → other ≢ drive → has_drive later other ≡ has_drive up other) where
      abbrev more : List DriveNo
      more = front ++ drive ∷ []

      -- no call on it was made before
      not_yet : IsAmong front (OnDrive drive.0) → ⊥
      not_yet among = fresh (subst (Contains front) (sym (same_drive drive among.0 (one_number drive.0 among.0.0 among.2))) among.1)

      calm : shelf.faults now (OnDrive drive.0) ≡ shelf.faults old (OnDrive drive.0)
      calm = so_far.kept.others (OnDrive drive.0) not_yet

      differs : (other : DriveNo) → other ≢ drive → OnDrive other.0 ≢ OnDrive drive.0
      differs other apart e = apart (same_drive other drive (one_number other.0 drive.0 e))

      in_front : (other : DriveNo) → Contains front other → other ≢ drive
      in_front other one_of e = fresh (subst (Contains front) e one_of)

      ups_each : (other : DriveNo) → Contains front other ⊎ (drive ≡ other) → MatchBool (has_drive later other) (DriveFailures shelf old next other.0).none (DriveFailures shelf old next other.0).some
      ups_each other (inl one_of) =
          let apart = in_front other one_of in
          let still = tried.tried.kept.others (OnDrive other.0) (differs other apart) in
          let was = so_far.ups.each other one_of in
          let then_ = subst (λ (n : ℕ). MatchBool (has_drive up other) (n ≡ shelf.faults old (OnDrive other.0)) (RoseOnce (shelf.faults old (OnDrive other.0)) n)) (sym still) was in
          subst (λ (b : Bool). MatchBool b (shelf.faults next (OnDrive other.0) ≡ shelf.faults old (OnDrive other.0)) (RoseOnce (shelf.faults old (OnDrive other.0)) (shelf.faults next (OnDrive other.0)))) (sym (same other apart)) then_
      ups_each other (inr e) =
          let here = subst (λ (n : ℕ). MatchBool (has_drive later drive) (shelf.faults next (OnDrive drive.0) ≡ n) (RoseOnce n (shelf.faults next (OnDrive drive.0)))) calm tried.cause in
          subst (λ (d : DriveNo). MatchBool (has_drive later d) (DriveFailures shelf old next d.0).none (DriveFailures shelf old next d.0).some) e here

      ups_more : AreUpBy (DriveFailures shelf old next) more later
      ups_more = record {
        each = λ other one_of. ups_each other (Contains-push_cases front drive other one_of);
        others = λ other out.
            let apart : other ≢ drive = λ e. out (subst (Contains more) (sym e) (Contains-push front drive)) in
            same other apart ∙ so_far.ups.others other (λ one_of. out (Contains-append_left front (drive ∷ []) other one_of));
      }

      synced_more : (u v : Tale) → AreSynced up u → TriedEnds drive (has_drive later drive) u v → (other : DriveNo) → (other ≡ drive) ⊎ (other ≢ drive) → has_drive later other ≡ true → IsSynced other.0 v
      synced_more u v were step other (inl e) so = subst (λ (d : DriveNo). IsSynced d.0 v) (sym e) (step.synced (subst (λ (d : DriveNo). has_drive later d ≡ true) e so))
      synced_more u v were step other (inr apart) so = synced_still other.0 u v (λ block. step.unwritten.outside other.0 block refl) (were other (sym (same other apart) ∙ so))

      ends_later : (t u v : Tale) → BringingEnds up front t u → TriedEnds drive (has_drive later drive) u v → BringingEnds later more t v
      ends_later t u v ends step = record {
        tale =
            let before : u ≡ brought_up later front t = ends.tale ∙ sym (brought_same up later front t (λ other one_of. same other (in_front other one_of))) in
            step.tale ∙ ap (λ (w : Tale). cond (has_drive later drive) (Then w (Synced drive.0)) w) before ∙ sym (brought_push later front drive t);
        synced = λ other. synced_more u v ends.synced step other (is_drive other drive);
      }

      count_more : count_by (has_drive later) more ≡ count_by (has_drive up) front + cond (has_drive later drive) 1 0
      count_more =
          count_push (has_drive later) front drive ∙ ap (λ (n : ℕ). n + cond (has_drive later drive) 1 0) (count_same (has_drive later) (has_drive up) front (λ other one_of. same other (in_front other one_of)))

      counted_more : IsBringingCounted shelf old next more later
      counted_more = record {
        calls = so_far.counted.calls + tried.calls;
        by = record {
          least = omega (arith, count_more, length_push front drive, so_far.counted.by.least, tried.least);
          most = omega (arith, length_push front drive, so_far.counted.by.most, tried.most);
        };
        made = reads_more shelf old now next so_far.counted.calls tried.calls (so_far.counted.calls + tried.calls) refl so_far.counted.made tried.made;
        steps = tried_push later front drive old now next (tried_same up later front old now (λ other one_of. same other (in_front other one_of)) so_far.counted.steps) tried.tried;
      }

      pub so_far_more : SoFar next more later
      so_far_more = record {
        ups = ups_more;
        moments = moments_more WritesNothing WritesNothing WritesNothing (shelf.tale old) (shelf.tale now) (shelf.tale next) (λ t m is. is) unwritten_more so_far.moments tried.moments;
        end = ends_more (BringingEnds up front) (TriedEnds drive (has_drive later drive)) (BringingEnds later more) (shelf.tale old) (shelf.tale now) (shelf.tale next) ends_later so_far.end tried.end;
        counted = counted_more;
        kept = among_then shelf old now next more drive (Contains-push front drive) calm (among_wider shelf old now front more (λ other one_of. Contains-append_left front (drive ∷ []) other one_of) so_far.kept) tried.tried.kept;
      }

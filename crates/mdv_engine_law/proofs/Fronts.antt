-- Which front of a reply was told by each moment of a line.
use Rattle.std.proofs.Common.{◌≡◌, ◌≤◌, inl, inr, ℕ, List, ◌++◌, take, Option, refl, sym, ◌∙◌, ap, subst, arith}
use Rattle.std.specs.Option.{option_map}
use Rattle.mdv_shelf.specs.Area.{KeptOutside, nowhere}
use Rattle.mdv_shelf.specs.Calls.{OnDrive}
use Rattle.mdv_shelf.specs.Shelves.{AtEachMoment, AtEachTale, AtEnd, DriveFailures, GoesOn, RestsOnceTold}
use Rattle.mdv_shelf.specs.Story.{OfTales, Story, tale_of}
use Rattle.mdv_shelf.specs.declared.shelf.Shelf.{Ghosts}
use Rattle.mdv_shelf.proofs.Noted.{moments_of_tales}
use Rattle.mdv_shelf.proofs.Moments.{moments_weaker, some_is}
use Rattle.mdv_shelf.proofs.Telling.{each_joined, each_within, rests_alone}
use Rattle.mdv_engine_law.specs.Answers.{IsMereRefusal}
use Rattle.mdv_engine_law.specs.Below.{Image, Tale, last, told}
use Rattle.mdv_engine_law.specs.Line.{Ask, IsSame, Kept, Memory, contents, kept_at}
use Rattle.mdv_engine_law.specs.Replies.{IsPlainAnswer, text_of}
use Rattle.mdv_engine_law.specs.Standing.{CarriedTo, CarryEnd, Knows, TellMoment, TellsFront, Turned}
use Rattle.mdv_engine_law.proofs.Turning.{whole_turned}
use Rattle.mdv_engine_law.specs.declared.answer.Answer.{Answer}
use Rattle.mdv_engine_law.specs.declared.host.Host.{Host}
use Rattle.mdv_base.proofs.Causes.{within_calm}
use Rattle.mdv_shelf.specs.Failing.{AreCalm, Outcomes}
use Rattle.mdv_engine_law.proofs.Widening.{AreWithin}

-- a count between two that are the same
between : (low high at : ℕ) → high ≡ low → low ≤ at → at ≤ high → at ≡ low
between low high at same above below = omega arith

module _ {S : Type 0} (shelf : Ghosts S) (telling : (s : S) → shelf.tale s ≡ option_map tale_of (shelf.story s)) where
  -- a line that was carried out, with nothing told, and then the telling of its answer
  pub fronts_then : (a b c : S) (Comes : Outcomes → Kept → Answer → Kept → Type 0) (host : Host) (ask : Ask) (old : Memory) (answer : Answer) (new : Memory)
      → IsPlainAnswer answer → ((failed more : Outcomes) → AreWithin failed more → (kept next : Kept) → Comes failed kept answer next → Comes more kept answer next)
      → GoesOn shelf a b → AtEachTale shelf (λ t m. told m ≡ told t) a b → AtEnd shelf (CarryEnd (Comes (DriveFailures shelf a b)) host ask old answer new) a b
      → (IsMereRefusal answer → shelf.tale b ≡ shelf.tale a)
      → GoesOn shelf b c → ((drive : ℕ) → shelf.faults c (OnDrive drive) ≡ shelf.faults b (OnDrive drive)) → AtEachTale shelf (TellMoment (text_of answer)) b c → AtEachMoment shelf (λ t m. Knows host old t.tale → TellsFront Comes (Turned host ask old) old t m) a c
  fronts_then a b c Comes host ask old answer new plain widen on quiet ends same more still tells =
      each_joined (OfTales (λ t m. told m ≡ told t)) (OfTales (TellMoment (text_of answer))) (λ t m. Knows host old t.tale → TellsFront Comes (Turned host ask old) old t m) _ _ _ _ _ _
      (λ s u v first mid last turn there ahead m here within knows. inl here)
      (λ s u v first mid last turn m here within ahead knows.
      let end = ends (tale_of s) (telling a ∙ ap (λ (o : Option Story). option_map tale_of o) first) in
      let here_is : tale_of u ≡ end.0 = some_is (shelf.tale b) (tale_of u) end.0 (telling b ∙ ap (λ (o : Option Story). option_map tale_of o) mid) end.1 in inr (record {
        answer = answer;
        next = kept_at new end.0;
        came = widen (DriveFailures shelf a b) _ (λ drive. within_calm _ _ _ (between _ _ _ (still drive) (within.counts.0 (OnDrive drive)) (within.counts.1 (OnDrive drive)))) (kept_at old (tale_of s)) (kept_at new end.0) (end.2.answered knows);
        count = here.count;
        is_told = here.is_told ∙ ap (λ (l : List ℕ). l ++ take here.count (text_of answer)) turn;
        shows = subst (λ (x : Tale). IsSame (contents x) (contents m.tale)) here_is (λ drive block. (here.kept drive block refl).last);
        unwritten = λ is. subst (λ (x : Tale). KeptOutside nowhere x m.tale)
            (some_is (shelf.tale b) (tale_of u) (tale_of s) (telling b ∙ ap (λ (o : Option Story). option_map tale_of o) mid) (same is ∙ telling a ∙ ap (λ (o : Option Story). option_map tale_of o) first)) here.kept;
        led = λ whole said. whole_turned host ask old new ⊥ (tale_of s) (tale_of u) m.tale turn answer said plain (subst (λ (x : Tale). CarriedTo host ask old answer new (tale_of s) x) (sym here_is) end.2.carried)
            (here.is_told ∙ ap (λ (l : List ℕ). told (tale_of u) ++ l) whole) here.kept;
      })) (moments_of_tales shelf telling a b (λ t m. told m ≡ told t) on quiet) (moments_of_tales shelf telling b c (TellMoment (text_of answer)) more tells)

  -- the telling alone of an answer to which a line came without a call
  pub fronts_alone : (a b : S) (Comes : Outcomes → Kept → Answer → Kept → Type 0) (host : Host) (ask : Ask) (old : Memory) (answer : Answer) (new : Memory)
      → IsPlainAnswer answer → ((t : Tale) → CarriedTo host ask old answer new t t) → ((calls : Outcomes) → AreCalm calls → (content : Image) → Comes calls (record { memory = old; content = content }) answer (record { memory = new; content = content })) → GoesOn shelf a b → ((drive : ℕ) → shelf.faults b (OnDrive drive) ≡ shelf.faults a (OnDrive drive))
      → AtEachTale shelf (TellMoment (text_of answer)) a b → AtEachMoment shelf (λ t m. Knows host old t.tale → TellsFront Comes (Turned host ask old) old t m) a b
  fronts_alone a b Comes host ask old answer new plain carried comes on still tells =
      each_within (OfTales (TellMoment (text_of answer))) (λ t m. Knows host old t.tale → TellsFront Comes (Turned host ask old) old t m) _ _ _ _
      (λ s u first last m end here within knows. inr (record {
        answer = answer;
        next = kept_at new (tale_of s);
        came = comes _ (λ drive. between _ _ _ (still drive) (within.counts.0 (OnDrive drive)) (within.counts.1 (OnDrive drive))) (contents (tale_of s));
        count = here.count;
        is_told = here.is_told;
        shows = λ drive block. (here.kept drive block refl).last;
        unwritten = λ is. here.kept;
        led = λ whole said. whole_turned host ask old new ⊥ (tale_of s) (tale_of s) m.tale refl answer said plain (carried (tale_of s)) (here.is_told ∙ ap (λ (l : List ℕ). told (tale_of s) ++ l) whole) here.kept;
      }))
      (moments_of_tales shelf telling a b (TellMoment (text_of answer)) on tells)

  -- by which the drives are at rest
  pub telling_rests : (a b : S) (text : List ℕ) → GoesOn shelf a b → AtEachTale shelf (TellMoment text) a b → ((drive : ℕ) → shelf.faults b (OnDrive drive) ≡ shelf.faults a (OnDrive drive)) → RestsOnceTold shelf a b
  telling_rests a b text on tells calm =
      rests_alone shelf telling a b on (moments_weaker (TellMoment text) (λ t m. (drive block : ℕ) → last m drive block ≡ last t drive block) _ _ (λ t m here drive block. (here.kept drive block refl).last) tells) calm

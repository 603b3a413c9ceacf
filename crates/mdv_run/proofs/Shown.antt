-- What the moments of a run show of where it is stays shown as it goes on.
use Rattle.std.proofs.Common.{◌≡◌, ℕ, Bool, ◌+◌, ◌≤◌, ◌<◌, length, Option, Some, ◌∙◌, ap, subst, arith}
use Rattle.std.specs.Option.{option_map}
use Rattle.mdv_run.specs.Below.{AreLast, AreShown, At, Counts, Ends, IsLastShown, IsShown, Memory, OnDrive, OnReplies, RoseTo, Script, Tale, counts, contents, kept_at, told}
use Rattle.mdv_run.specs.Promise.{between, point_of}
use Rattle.mdv_run.specs.Turns.{at}
use Rattle.mdv_shelf.specs.Calls.{Part}
use Rattle.mdv_shelf.specs.Everywhere.{Image}
use Rattle.mdv_shelf.specs.Shelves.{AtEachTale, EndsTold, GoesOn, IsAtRest, RestsOnceTold}
use Rattle.mdv_shelf.specs.Made.{effort_of, made_between}
use Rattle.mdv_shelf.specs.Story.{Moment, NoFewer, OfTales, Story, tale_of}
use Rattle.mdv_shelf.specs.declared.shelf.Shelf.{Ghosts}
use Rattle.mdv_shelf.proofs.Moments.{some_is}
use Rattle.mdv_shelf.proofs.Noted.{moment_both, moments_of_tales}
use Rattle.mdv_shelf.proofs.Telling.{each_joined}

-- counts from the same source
rise : (f g : Part → ℕ) (source : ℕ) → NoFewer f g → RoseTo (counts f source) (counts g source)
rise f g source le = record { drives = λ drive. le (OnDrive drive); source = omega arith; replies = le OnReplies }

rise_on : (now : Counts) (f g : Part → ℕ) → RoseTo now (counts f now.source) → NoFewer f g → RoseTo now (counts g now.source)
rise_on now f g rose le = record { drives = λ drive. omega (arith, rose.drives drive, le (OnDrive drive)); source = omega arith; replies = omega (arith, rose.replies, le OnReplies) }

fall_on : (now : Counts) (f g : Part → ℕ) → RoseTo (counts g now.source) now → NoFewer f g → RoseTo (counts f now.source) now
fall_on now f g rose le = record { drives = λ drive. omega (arith, rose.drives drive, le (OnDrive drive)); source = omega arith; replies = omega (arith, rose.replies, le OnReplies) }

no_fewer_then : (f g h : Part → ℕ) → NoFewer f g → NoFewer g h → NoFewer f h
no_fewer_then f g h one two part = omega (arith, one part, two part)

pub grew_told : (old new : Option Tale) → Ends (λ t u. length (told t) < length (told u)) old new → (u v : Tale) → old ≡ Some u → new ≡ Some v → length (told u) < length (told v)
grew_told old new grew u v is_u is_v =
    let more = grew u is_u in
    subst (λ (w : Tale). length (told u) < length (told w)) (some_is new more.0 v more.1 is_v) more.2

module _ {S : Type 0} (shelf : Ghosts S) (telling : (s : S) → shelf.tale s ≡ option_map tale_of (shelf.story s)) (a b c : S) (on : GoesOn shelf a b) where
  -- how much was told by the point of a story
  told_at : (s : S) (x : Story) (t : Tale) → shelf.story s ≡ Some x → shelf.tale s ≡ Some t → length (told (tale_of x)) ≡ length (told t)
  told_at s x t story tale = ap (λ (y : Tale). length (told y)) (some_is (shelf.tale s) (tale_of x) t (telling s ∙ ap (λ (o : Option Story). option_map tale_of o) story) tale)

  -- what was shown before is shown later
  pub shown_later : GoesOn shelf b c → (bytes piece : ℕ) (now : At) (t u : Tale) → 0 < piece → shelf.tale a ≡ Some t → shelf.tale b ≡ Some u → length (told t) + (bytes + piece) ≤ length (told u)
      → IsShown (between shelf a b) bytes piece now → IsShown (between shelf a c) bytes piece now
  shown_later more bytes piece now t u some is_t is_u le shown =
      each_joined (AreShown bytes piece now) (λ _ _. Unit {0}) (AreShown bytes piece now) _ _ _ _ _ _ (λ s x v first mid last turn there ahead m here within. here)
      (λ s x v first mid last turn m here within ahead.
      let start = told_at a s t first is_t in
      let turned = told_at b x u mid is_u in
      let from = within.bytes.0 in record {
        before = λ short. absurd (omega (arith, short, le, start, turned, from));
        behind = λ long. rise_on now.counts _ m.faults (turn.behind (omega (arith, some, le, start, turned))) within.counts.0;
        reads = λ long short. absurd (omega (arith, short, le, start, turned, from));
        calls = λ long short. absurd (omega (arith, short, le, start, turned, from));
      }) shown more

  -- once a byte was told no part fails, the drives are at rest, and until all is told the last call alone is wanting
  abbrev IsUnfailed : S → Moment → Moment → Type 0
  IsUnfailed c y m = length (told y.tale) < length (told m.tale) → NoFewer (shelf.faults c) m.faults

  abbrev Rests : S → Tale → Moment → Moment → Type 0
  Rests c v y m = length (told y.tale) < length (told m.tale) → IsAtRest (shelf.faults c) v m

  abbrev IsOneShort : S → Tale → Moment → Moment → Type 0
  IsOneShort c v y m = length (told y.tale) < length (told m.tale) → length (told m.tale) < length (told v) → (made_between m.effort (effort_of shelf c)).exactly 1 0

  -- and so is where a run is at the end of a stretch by which a reply was told
  pub shown_now : EndsTold shelf b c → RestsOnceTold shelf b c → (bytes piece source : ℕ) (memory : Memory) (refused : Bool) (script : Script) (t u v : Tale) → shelf.tale a ≡ Some t → shelf.tale b ≡ Some u → shelf.tale c ≡ Some v
      → length (told t) + bytes ≡ length (told u) → length (told u) + piece ≡ length (told v) → IsShown (between shelf a c) bytes piece (at (point_of shelf source c) (kept_at memory v) refused script)
  shown_now ends rests bytes piece source memory refused script t u v is_t is_u is_v until same =
      each_joined (λ _ _. Unit {0}) (λ y m. IsUnfailed c y m × (Rests c v y m × IsOneShort c v y m))
      (AreShown bytes piece (at (point_of shelf source c) (kept_at memory v) refused script)) _ _ _ _ _ _
      (λ s x w first mid last turn there ahead m here within.
      let start = told_at a s t first is_t in
      let turned = told_at b x u mid is_u in
      let whole = within.bytes.1 in record {
        before = λ short. rise m.faults (shelf.faults c) source (no_fewer_then m.faults _ (shelf.faults c) within.counts.1 ahead);
        behind = λ long. absurd (omega (arith, long, until, start, turned, whole));
        reads = λ long short. absurd (omega (arith, long, until, start, turned, whole));
        calls = λ long short. absurd (omega (arith, long, until, start, turned, whole));
      })
      (λ s x w first mid last turn m here within ahead.
      let start = told_at a s t first is_t in
      let turned = told_at b x u mid is_u in record {
        before = λ short. rise m.faults (shelf.faults c) source within.counts.1;
        behind = λ long. rise (shelf.faults c) m.faults source (here.0 (omega (arith, long, until, start, turned)));
        reads = λ long short drive block. (here.1.0 (omega (arith, long, until, start, turned))).reads drive block;
        calls = λ long short. here.1.1 (omega (arith, long, until, start, turned)) (omega (arith, short, until, same, start));
      }) on (moment_both shelf (IsUnfailed c) (λ y m. Rests c v y m × IsOneShort c v y m) b c ends.still (moment_both shelf (Rests c v) (IsOneShort c v) b c (rests v is_v) (ends.once v is_v)))

  -- what a stretch shows is shown from an earlier point on, where nothing was told in between
  pub shown_earlier : AtEachTale shelf (λ t m. told m ≡ told t) a b → (bytes piece : ℕ) (now : At) → 0 < piece → IsShown (between shelf b c) bytes piece now → IsShown (between shelf a c) bytes piece now
  shown_earlier quiet bytes piece now some shown =
      each_joined (OfTales (λ t m. told m ≡ told t)) (AreShown bytes piece now) (AreShown bytes piece now) _ _ _ _ _ _
      (λ s x v first mid last turn there ahead m here within.
      let still : length (told m.tale) ≡ length (told (tale_of s)) = ap length here in record {
        before = λ short. fall_on now.counts m.faults _ (there.before (omega (arith, some))) within.counts.1;
        behind = λ long. absurd (omega (arith, long, still));
        reads = λ long short. absurd (omega (arith, long, still));
        calls = λ long short. absurd (omega (arith, long, still));
      })
      (λ s x v first mid last turn m here within ahead.
      let same : length (told (tale_of x)) ≡ length (told (tale_of s)) = ap length turn in record {
        before = λ short. here.before (omega (arith, short, same));
        behind = λ long. here.behind (omega (arith, long, same));
        reads = λ long short. here.reads (omega (arith, long, same)) (omega (arith, short, same));
        calls = λ long short. here.calls (omega (arith, long, same)) (omega (arith, short, same));
      })
      (moments_of_tales shelf telling a b (λ t m. told m ≡ told t) on quiet) shown

  -- the line with which the run is over is shown
  pub last_now : RestsOnceTold shelf b c → (bytes : ℕ) (t u v : Tale) → shelf.tale a ≡ Some t → shelf.tale b ≡ Some u → shelf.tale c ≡ Some v → length (told t) + bytes ≡ length (told u)
      → IsLastShown (between shelf a c) bytes (λ drive. shelf.faults c (OnDrive drive)) (contents v)
  last_now rests bytes t u v is_t is_u is_v until =
      each_joined (λ _ _. Unit {0}) (λ y m. length (told y.tale) < length (told m.tale) → IsAtRest (shelf.faults c) v m) (AreLast bytes (λ drive. shelf.faults c (OnDrive drive)) (contents v)) _ _ _ _ _ _
      (λ s x w first mid last turn there ahead m here within.
      let start = told_at a s t first is_t in
      let turned = told_at b x u mid is_u in
      let whole = within.bytes.1 in record {
        before = λ short drive. no_fewer_then m.faults _ (shelf.faults c) within.counts.1 ahead (OnDrive drive);
        behind = λ long. absurd (omega (arith, long, until, start, turned, whole));
        reads = λ long. absurd (omega (arith, long, until, start, turned, whole));
      })
      (λ s x w first mid last turn m here within ahead.
      let start = told_at a s t first is_t in
      let turned = told_at b x u mid is_u in record {
        before = λ short drive. within.counts.1 (OnDrive drive);
        behind = λ long drive. (here (omega (arith, long, until, start, turned))).drives drive;
        reads = λ long drive block. (here (omega (arith, long, until, start, turned))).reads drive block;
      }) on (rests v is_v)

  pub last_earlier : AtEachTale shelf (λ t m. told m ≡ told t) a b → (bytes : ℕ) (drives : ℕ → ℕ) (content : Image) → IsLastShown (between shelf b c) bytes drives content → IsLastShown (between shelf a c) bytes drives content
  last_earlier quiet bytes drives content shown =
      each_joined (OfTales (λ t m. told m ≡ told t)) (AreLast bytes drives content) (AreLast bytes drives content) _ _ _ _ _ _
      (λ s x v first mid last turn there ahead m here within.
      let still : length (told m.tale) ≡ length (told (tale_of s)) = ap length here in record {
        before = λ short drive. (let le = within.counts.1 (OnDrive drive) in let start = there.before (omega arith) drive in omega (arith, le, start));
        behind = λ long. absurd (omega (arith, long, still));
        reads = λ long. absurd (omega (arith, long, still));
      })
      (λ s x v first mid last turn m here within ahead.
      let same : length (told (tale_of x)) ≡ length (told (tale_of s)) = ap length turn in record {
        before = λ short. here.before (omega (arith, short, same));
        behind = λ long. here.behind (omega (arith, long, same));
        reads = λ long. here.reads (omega (arith, long, same));
      })
      (moments_of_tales shelf telling a b (λ t m. told m ≡ told t) on quiet) shown

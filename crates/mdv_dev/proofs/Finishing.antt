-- A request, turn after turn.
use Rattle.std.proofs.Common.{◌≡◌, ◌⊎◌, inl, inr, ℕ, ◌+◌, ◌-◌, ◌<◌, ◌≤◌, true, List, length, take, Result, Ok, Err, refl, sym, ◌∙◌, ap, subst, arith}
use Rattle.std.proofs.lemmas.List.{take-take}
use Rattle.mdv_shelf.specs.Calls.{Took}
use Rattle.mdv_shelf.specs.Shelves.{AtEachTale, AtEnd, DriveFailures}
use Rattle.mdv_shelf.specs.declared.shelf.Shelf.{Ghosts}
use Rattle.mdv_shelf.proofs.Between.{between_of, between_then}
use Rattle.mdv_shelf.proofs.Counts.{took_more}
use Rattle.mdv_shelf.proofs.Moments.{ends_more, moments_more}
use Rattle.mdv_map.specs.Maps.{Map}
use Rattle.mdv_map.specs.Requests.{Rewriting}
use Rattle.mdv_map.proofs.Joining.{rewritings_join}
use Rattle.mdv_dev.specs.Below.{AreCalm, DriveNo}
use Rattle.mdv_dev.specs.Drives.{KeptOnDrives}
use Rattle.mdv_dev.specs.Works.{Carries, FailedAt, HasRoom, IsFinished, IsOpen, IsRewriting, IsTurned, IsTurnCounted, LeavesBuffer, MakesTurns, TookExactly, is_turn, news, turns, written_of}
use Rattle.mdv_dev.specs.declared.work.Work.{Work}
use Rattle.mdv_dev.specs.declared.work.WorkKind.{WorkKind}
use Rattle.mdv_dev.specs.declared.work.WorkKind.TheVariants.{Read, Write, Flush}
use Rattle.mdv_dev.proofs.Drives.{drives_more}
use Rattle.mdv_dev.proofs.Failing.{calm_more, failed_more}

-- one turn, from one state to the next
pub record OneTurn {S T : Type 0} (shelf : Ghosts S) (v : Map) (now next : S) (work more : Work) (after later : List (List ℕ)) (result : Result T DriveNo) : Type 0 where
  pub moments : IsRewriting shelf now next v work after
  pub done : AtEnd shelf (Carries v work after more later) now next
  pub turned : IsTurned v (DriveFailures shelf now next) work after more later result
  pub counted : IsTurnCounted shelf now next work more result
  pub kept : KeptOnDrives shelf now next v work.at work.count

-- nothing was done yet
pub record IsStill {S : Type 0} (before now : S) (start work : Work) (buffer after : List (List ℕ)) : Type 0 where
  pub same_shelf : now ≡ before
  pub same_work : work ≡ start
  pub same_buffer : after ≡ buffer

-- what a request did by its turns so far
pub record HasGone {S : Type 0} (shelf : Ghosts S) (v : Map) (before now : S) (start work : Work) (buffer after : List (List ℕ)) : Type 0 where
  pub same : work ≡ record start { done = work.done }
  pub rose : start.done < work.done
  pub within : work.done ≤ start.count
  pub begins : work.done < start.count → is_turn v start.kind start.at work.done ≡ true
  pub leaves : LeavesBuffer start.kind buffer after
  pub front : take start.done after ≡ take start.done buffer
  pub moments : IsRewriting shelf before now v start buffer
  pub done : AtEnd shelf (Carries v start buffer work after) before now
  pub calm : AreCalm (DriveFailures shelf before now)
  pub fewer : turns v start.kind start.at start.done ≤ turns v start.kind start.at work.done
  pub counted : Took shelf.calls shelf.written before now (turns v start.kind start.at work.done - turns v start.kind start.at start.done) (written_of start.kind (work.done - start.done))
  pub kept : KeptOnDrives shelf before now v start.at start.count

abbrev pub SoFar : {S : Type 0} → Ghosts S → Map → S → S → Work → Work → List (List ℕ) → List (List ℕ) → Type 0
SoFar shelf v before now start work buffer after = IsStill before now start work buffer after ⊎ HasGone shelf v before now start work buffer after

-- all that a request says at its end
pub record HasFinished {S T : Type 0} (shelf : Ghosts S) (v : Map) (before now : S) (start work : Work) (buffer after : List (List ℕ)) (result : Result T DriveNo) : Type 0 where
  pub moments : IsRewriting shelf before now v start buffer
  pub done : AtEnd shelf (Carries v start buffer work after) before now
  pub finished : IsFinished v (DriveFailures shelf before now) start buffer work after result
  pub counted : MakesTurns shelf before now v start work result
  pub kept : KeptOnDrives shelf before now v start.at start.count

leaves_more : (k : WorkKind) (a b c : List (List ℕ)) → LeavesBuffer k a b → LeavesBuffer k b c → LeavesBuffer k a c
leaves_more Read a b c one two = two ∙ one
leaves_more Write a b c one two = two ∙ one
leaves_more Flush a b c one two = two ∙ one

-- a longer front stays, and so a shorter one
front_more : (m n : ℕ) (a b c : List (List ℕ)) → m ≤ n → take m b ≡ take m a → take n c ≡ take n b → take m c ≡ take m a
front_more m n a b c le one two = sym (take-take m n c le) ∙ ap (take m) two ∙ take-take m n b le ∙ one

same_news : (k : WorkKind) (a b : List (List ℕ)) → LeavesBuffer k a b → news k b ≡ news k a
same_news Read a b is = refl
same_news Write a b is = is
same_news Flush a b is = refl

same_room : (k : WorkKind) (n : ℕ) (a b : List (List ℕ)) → LeavesBuffer k a b → HasRoom k n (length a) → HasRoom k n (length b)
same_room Read n a b is has = is ∙ has
same_room Write n a b is has = ap length is ∙ has
same_room Flush n a b is has = tt

written_more : (k : WorkKind) (a b c : ℕ) → a ≤ b → b ≤ c → written_of k (b - a) + written_of k (c - b) ≡ written_of k (c - a)
written_more Read a b c one two = refl
written_more Write a b c one two = omega arith
written_more Flush a b c one two = refl

written_grows : (k : WorkKind) (a b : ℕ) → a ≤ b → written_of k a ≤ written_of k b
written_grows Read a b le = omega arith
written_grows Write a b le = le
written_grows Flush a b le = omega arith

module _ {S : Type 0} (shelf : Ghosts S) (v : Map) (before : S) (start : Work) (buffer : List (List ℕ)) where
  pub gone_first : {T : Type 0} (x : T) (next : S) (more : Work) (later : List (List ℕ)) → OneTurn {T = T} shelf v before next start more buffer later (Ok x) → HasGone shelf v before next start more buffer later
  gone_first x next more later turn =
      let one : 1 ≡ turns v start.kind start.at more.done - turns v start.kind start.at start.done = omega (arith, turn.turned.rose.1) in
      record {
        same = turn.turned.same;
        rose = turn.turned.rose.0;
        within = turn.turned.within;
        begins = turn.turned.begins;
        leaves = turn.turned.buffer;
        front = turn.turned.front;
        moments = turn.moments;
        done = turn.done;
        calm = turn.turned.calm;
        fewer = omega (arith, turn.turned.rose.1);
        counted = subst (λ (n : ℕ). Took shelf.calls shelf.written before next n (written_of start.kind (more.done - start.done))) one turn.counted.done;
        kept = turn.kept;
      }

  module _ (now next : S) (work more : Work) (after later : List (List ℕ)) (gone : HasGone shelf v before now start work buffer after) where
    moments_on : IsRewriting shelf now next v work after → IsRewriting shelf before next v start buffer
    moments_on moments =
        let there = subst (λ (u : Work). IsRewriting shelf now next v u after) gone.same moments in
        let here = subst (λ (xs : List (List ℕ)). AtEachTale shelf (Rewriting v start.at xs) now next) (same_news start.kind buffer after gone.leaves) there.each in record {
          each = moments_more (Rewriting v start.at (news start.kind buffer)) (Rewriting v start.at (news start.kind buffer)) (Rewriting v start.at (news start.kind buffer)) (shelf.tale before) (shelf.tale now) (shelf.tale next)
              (λ t m one. one) (λ t u m one two. rewritings_join.more v start.at (news start.kind buffer) t u m one two) gone.moments.each here;
          still = λ is. there.still is ∙ gone.moments.still is;
        }

    done_on : AtEnd shelf (Carries v work after more later) now next → AtEnd shelf (Carries v start buffer more later) before next
    done_on done =
        ends_more (Carries v start buffer work after) (Carries v work after more later) (Carries v start buffer more later) (shelf.tale before) (shelf.tale now) (shelf.tale next)
        (λ t u m first second. record { done = λ had. second.done (first.done had); synced = λ drive had. second.synced drive (first.synced drive had) }) gone.done done

    kept_on : KeptOnDrives shelf now next v work.at work.count → KeptOnDrives shelf before next v start.at start.count
    kept_on kept = drives_more shelf before now v start.at start.count gone.calm gone.kept next (subst (λ (u : Work). KeptOnDrives shelf now next v u.at u.count) gone.same kept)

    pub gone_more : {T : Type 0} (x : T) → OneTurn {T = T} shelf v now next work more after later (Ok x) → HasGone shelf v before next start more buffer later
    gone_more {T} x turn =
        let turned = subst (λ (u : Work). IsTurned {T = T} v (DriveFailures shelf now next) u after more later (Ok x)) gone.same turn.turned in
        let counted = subst (λ (u : Work). IsTurnCounted {T = T} {E = DriveNo} shelf now next u more (Ok x)) gone.same turn.counted in
        let up = gone.rose in
        let fewer = gone.fewer in
        record {
          same = turned.same;
          rose = omega (arith, turned.rose.0);
          within = turned.within;
          begins = turned.begins;
          leaves = leaves_more start.kind buffer after later gone.leaves turned.buffer;
          front = front_more start.done work.done buffer after later (omega arith) gone.front turned.front;
          moments = moments_on turn.moments;
          done = done_on turn.done;
          calm = calm_more shelf before now next gone.calm turned.calm;
          fewer = omega (arith, turned.rose.1);
          counted = took_more shelf.calls shelf.written before now next
              (turns v start.kind start.at work.done - turns v start.kind start.at start.done) 1 (written_of start.kind (work.done - start.done)) (written_of start.kind (more.done - work.done))
              (turns v start.kind start.at more.done - turns v start.kind start.at start.done) (written_of start.kind (more.done - start.done))
              (omega (arith, turned.rose.1)) (written_more start.kind start.done work.done more.done (omega arith) (omega (arith, turned.rose.0))) gone.counted counted.done;
          kept = kept_on turn.kept;
        }

  -- the request is open as long as blocks are left
  pub open_still : (now : S) (work : Work) (after : List (List ℕ)) → SoFar shelf v before now start work buffer after → IsOpen v start (length buffer) → work.done < work.count → IsOpen v work (length after)
  open_still now work after (inl still) opened left =
      subst (λ (u : Work). IsOpen v u (length after)) (sym still.same_work) (subst (λ (xs : List (List ℕ)). IsOpen v start (length xs)) (sym still.same_buffer) opened)
  open_still now work after (inr gone) opened left =
      let below : work.done < start.count = subst (λ (u : Work). work.done < u.count) gone.same left in
      subst (λ (u : Work). IsOpen v u (length after)) (sym gone.same) (record {
        some_left = below;
        within = opened.within;
        buffer = same_room start.kind start.count buffer after gone.leaves opened.buffer;
        begins = gone.begins below;
      })

  pub same_drives : (now : S) (work : Work) (after : List (List ℕ)) → SoFar shelf v before now start work buffer after → shelf.sizes before ≡ shelf.sizes now
  same_drives now work after (inl still) = sym (ap shelf.sizes still.same_shelf)
  same_drives now work after (inr gone) = sym gone.kept.keeps.same_sizes

  pub so_far_more : {T : Type 0} (x : T) (now next : S) (work more : Work) (after later : List (List ℕ)) → SoFar shelf v before now start work buffer after → OneTurn {T = T} shelf v now next work more after later (Ok x)
      → SoFar shelf v before next start more buffer later
  so_far_more {T} x now next work more after later (inl still) turn =
      let a = subst (λ (s : S). OneTurn {T = T} shelf v s next work more after later (Ok x)) still.same_shelf turn in
      let b = subst (λ (u : Work). OneTurn {T = T} shelf v before next u more after later (Ok x)) still.same_work a in
      let c = subst (λ (xs : List (List ℕ)). OneTurn {T = T} shelf v before next start more xs later (Ok x)) still.same_buffer b in
      inr (gone_first {T = T} x next more later c)
  so_far_more {T} x now next work more after later (inr gone) turn = inr (gone_more now next work more after later gone {T = T} x turn)

  -- its end
  pub ends_well : {T : Type 0} (x : T) (now : S) (work : Work) (after : List (List ℕ)) → SoFar shelf v before now start work buffer after → start.done < start.count → work.count ≤ work.done → HasFinished {T = T} shelf v before now start work buffer after (Ok x)
  ends_well x now work after (inl still) left end =
      let same : work.done ≡ start.done = ap (λ (u : Work). u.done) still.same_work in
      let count : work.count ≡ start.count = ap (λ (u : Work). u.count) still.same_work in absurd (omega arith)
  ends_well x now work after (inr gone) left end =
      let count : work.count ≡ start.count = ap (λ (u : Work). u.count) gone.same in
      let within = gone.within in
      let whole : work.done ≡ start.count = omega arith in
      let took = subst (λ (n : ℕ). Took shelf.calls shelf.written before now (turns v start.kind start.at n - turns v start.kind start.at start.done) (written_of start.kind (n - start.done))) whole gone.counted in
      record {
        moments = gone.moments;
        done = gone.done;
        finished = record { same = gone.same; buffer = gone.leaves; front = gone.front; whole = (whole, gone.calm); stayed = tt };
        counted = record { done = took; failed = tt };
        kept = gone.kept;
      }

  module _ {T : Type 0} (e : DriveNo) (next : S) (more : Work) (later : List (List ℕ)) where
    fails_first : OneTurn {T = T} shelf v before next start more buffer later (Err e) → start.done < start.count → is_turn v start.kind start.at start.done ≡ true → HasFinished {T = T} shelf v before next start more buffer later (Err e)
    fails_first turn left begins = record {
      moments = turn.moments;
      done = turn.done;
      finished = record {
        same = turn.turned.same;
        buffer = turn.turned.buffer;
        front = turn.turned.front;
        whole = tt;
        stayed =
            let still : more.done ≡ start.done = turn.turned.stayed.0 in
            let same : start.done ≡ more.done = sym still in
            (omega arith, subst (λ (k : ℕ). FailedAt (DriveFailures shelf before next) v start.kind start.at start.count k e.0) same (record { below = left; begins = begins; on = turn.turned.stayed.1; failed = turn.turned.stayed.2 }));
      };
      counted = record {
        done = tt;
        failed =
            let still : more.done ≡ start.done = turn.turned.stayed.0 in
            let same = ap (turns v start.kind start.at) still in
            let one : 1 ≡ turns v start.kind start.at more.done - turns v start.kind start.at start.done + 1 = omega arith in
            subst (λ (n : ℕ). TookExactly shelf before next n (written_of start.kind (start.count - start.done))) one turn.counted.any;
      };
      kept = turn.kept;
    }

    fails_later : (now : S) (work : Work) (after : List (List ℕ)) → HasGone shelf v before now start work buffer after → OneTurn {T = T} shelf v now next work more after later (Err e) → work.done < work.count → HasFinished {T = T} shelf v before next start more buffer later (Err e)
    fails_later now work after gone turn left =
        let turned = subst (λ (u : Work). IsTurned {T = T} v (DriveFailures shelf now next) u after more later (Err e)) gone.same turn.turned in
        let counted = subst (λ (u : Work). IsTurnCounted {T = T} {E = DriveNo} shelf now next u more (Err e)) gone.same turn.counted in
        let below : work.done < start.count = subst (λ (u : Work). work.done < u.count) gone.same left in
        let up = gone.rose in
        let fewer = gone.fewer in
        let blocks = written_more start.kind start.done work.done start.count (omega arith) (omega arith) in
        let took = between_of shelf.calls shelf.written before now (turns v start.kind start.at work.done - turns v start.kind start.at start.done) (written_of start.kind (work.done - start.done))
        (turns v start.kind start.at work.done - turns v start.kind start.at start.done) (turns v start.kind start.at work.done - turns v start.kind start.at start.done) (written_of start.kind (work.done - start.done)) (omega arith) (omega arith) (omega arith) gone.counted in
        record {
          moments = moments_on now next work more after later gone turn.moments;
          done = done_on now next work more after later gone turn.done;
          finished = record {
            same = turned.same;
            buffer = leaves_more start.kind buffer after later gone.leaves turned.buffer;
            front = front_more start.done work.done buffer after later (omega arith) gone.front turned.front;
            whole = tt;
            stayed =
                let still : more.done ≡ work.done = turned.stayed.0 in
                let same : work.done ≡ more.done = sym still in
                let since = failed_more shelf before now next gone.calm e.0 turned.stayed.2 in
                (omega arith, subst (λ (k : ℕ). FailedAt (DriveFailures shelf before next) v start.kind start.at start.count k e.0) same (record { below = below; begins = gone.begins below; on = turned.stayed.1; failed = since }));
          };
          counted = record {
            done = tt;
            failed =
                let still : more.done ≡ work.done = turned.stayed.0 in
                let same = ap (turns v start.kind start.at) still in
                let calls = turns v start.kind start.at more.done - turns v start.kind start.at start.done + 1 in
                between_then shelf.calls shelf.written before now next
                (turns v start.kind start.at work.done - turns v start.kind start.at start.done) (turns v start.kind start.at work.done - turns v start.kind start.at start.done) (written_of start.kind (work.done - start.done)) 1 1 (written_of start.kind (start.count - work.done))
                calls calls (written_of start.kind (start.count - start.done)) (omega arith) (omega arith) (omega (arith, blocks)) took counted.any;
          };
          kept = kept_on now next work more after later gone turn.kept;
        }

    pub ends_badly : (now : S) (work : Work) (after : List (List ℕ)) → SoFar shelf v before now start work buffer after → OneTurn {T = T} shelf v now next work more after later (Err e) → work.done < work.count → is_turn v start.kind start.at start.done ≡ true
        → HasFinished {T = T} shelf v before next start more buffer later (Err e)
    ends_badly now work after (inl still) turn left begins =
        let a = subst (λ (s : S). OneTurn {T = T} shelf v s next work more after later (Err e)) still.same_shelf turn in
        let b = subst (λ (u : Work). OneTurn {T = T} shelf v before next u more after later (Err e)) still.same_work a in
        fails_first (subst (λ (xs : List (List ℕ)). OneTurn {T = T} shelf v before next start more xs later (Err e)) still.same_buffer b) (subst (λ (u : Work). u.done < u.count) still.same_work left) begins
    ends_badly now work after (inr gone) turn left begins = fails_later now work after gone turn left

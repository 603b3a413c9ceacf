-- Where a run has come between two lines: the history with which the drives stood as it began has gone on by the events of its boot and of its lines so far, as long as no boot of it met a stale vote.
use Rattle.std.proofs.Common.{◌≡◌, ◌⊎◌, inl, inr, ℕ, List, [], ◌++◌, refl, sym, ◌∙◌, ap, subst, append_assoc, Some}
use Rattle.std.proofs.lemmas.List.{append-nil}
use Rattle.mdv_engine_law.specs.Awake.{BootBegins, Happening}
use Rattle.mdv_engine_law.specs.Hosts.{key_of}
use Rattle.mdv_engine_law.specs.Line.{Memory}
use Rattle.mdv_engine_law.specs.Standing as turn
use Rattle.mdv_engine_law.specs.Standing.{AreOwn, BootedTo, IsKnown, MeetsStaleAt, Reached, StandsAt}
use Rattle.mdv_engine_law.specs.declared.host.Host.{Host}
use Rattle.mdv_engine_law.proofs.Plain.{nothing_answers}
use Rattle.mdv_port.specs.Script.{Script}
use Rattle.mdv_run_law.specs.Below.{Entry}
use Rattle.mdv_run_law.specs.Standing.{AreIdle, AreOfRun, AreOfRunBy, AreReplies, AtBoot, ComeOf, Context, Goes, HasMetInLines, HasMetInLinesTold, HasMetInRun, InWork, LinesMoment, NothingLeft, RanTo, behind, context_of}
use Rattle.mdv_run_law.proofs.Coming.{behind_none}
use Rattle.mdv_run_law.proofs.Lining.{behind_both, come_behind, replies_more, replies_none}
use Rattle.mdv_run_law.proofs.Since.{since_more}
use Rattle.mdv_shelf.specs.Moments.{IsSince}
use Rattle.mdv_shelf.specs.Tale.{Tale, told}
use Rattle.mdv_status.specs.Telling.{left_in, replies_in}
use Rattle.mdv_store_law.specs.Machine as machine
use Rattle.mdv_store_law.proofs.Machine.{after_more, course_more}
use Rattle.mdv_volumes.specs.History.{Event, History, history_after, history_after_all}

module _ (host : Host) (script : Script) (h : History) (t : Tale) where
  pub record HasCome (memory : Memory) (left : Script) (u : Tale) : Type 0 where
    pub bytes : List ℕ
    pub is_told : told u ≡ told t ++ bytes
    pub replies : AreReplies bytes
    pub left_is : behind script (replies_in bytes) ≡ left
    pub since : IsSince t u
    pub es : List Event
    pub course : machine.IsCourse history_after (Happening host) h es
    pub come : AreOfRunBy host (NothingLeft (context_of memory)) script (replies_in bytes) es
    pub known : IsKnown host memory (history_after_all h es) u

  -- no boot of the run met a stale vote by then
  abbrev pub HasMetNothing : Tale → Type 0
  HasMetNothing m = HasMetInRun host script t m h → ⊥

  -- behind the run's boot
  module _ (memory : Memory) (u m : Tale) (stands : StandsAt host h t) (own : AreOwn host 0 h) (begun : memory.begun ≡ 0) (fresh : memory.entries ≡ []) (booted : BootedTo host memory t u) (since : IsSince t u) (none : HasMetNothing m) where
    pub come_boot : (at : HasCome memory script u) × AreIdle host at.es
    come_boot = by (booted.goes h stands (subst (λ (n : ℕ). AreOwn host n h) (sym begun) own)) where
      by : MeetsStaleAt host h t ⊎ turn.Goes host [] [] (λ es after. IsKnown host memory after u × BootBegins (key_of host) memory.up es) u h → (at : HasCome memory script u) × AreIdle host at.es
      by (inl met) = absurd (none (inl met))
      by (inr went) = (
        record {
          bytes = [];
          is_told = booted.quiet ∙ sym (append-nil (told t));
          replies = replies_none;
          left_is = ap (behind script) nothing_answers ∙ behind_none script;
          since = since;
          es = went.es;
          course = went.course;
          come = record {
            boot = went.es;
            lines = [];
            both = sym (append-nil went.es);
            idle = went.come;
            booted = (memory.up, went.after.1);
            come = subst (λ (l : List (List ℕ)). ComeOf host (NothingLeft (context_of memory)) (Some []) script l []) (sym nothing_answers) (refl, ap (λ (es : List Entry). Some es) (sym fresh));
          };
          known = went.after.0;
        },
        went.come,
      )

  -- a stretch of lines behind it
  module _ (now : Memory) (left : Script) (u : Tale) (at : HasCome now left u) where
    -- with events that come of it
    pub come_on : (Left : Context → Script → List Event → Type 0) (bytes : List ℕ) (fs : List Event) → ComeOf host Left (context_of now) left (replies_in bytes) fs → AreOfRunBy host Left script (replies_in (at.bytes ++ bytes)) (at.es ++ fs)
    come_on Left bytes fs come = record {
      boot = at.come.boot;
      lines = at.come.lines ++ fs;
      both = ap (λ (l : List Event). l ++ fs) at.come.both ∙ append_assoc at.come.boot at.come.lines fs;
      idle = at.come.idle;
      booted = at.come.booted;
      come = come_behind script left at.bytes bytes at.replies at.left_is host Left (context_of now) (Some []) at.come.lines fs (now.entries, refl) at.come.come come;
    }

    told_on : (m : Tale) (bytes : List ℕ) → told m ≡ told u ++ bytes → told m ≡ told t ++ (at.bytes ++ bytes)
    told_on m bytes more = more ∙ ap (λ (l : List ℕ). l ++ bytes) at.is_told ∙ append_assoc (told t) at.bytes bytes

    -- the history goes on by them
    goes_on : (Left : Context → Script → List Event → Type 0) (bytes : List ℕ) (m : Tale) (After : History → Type 0) → Goes host (ComeOf host Left (context_of now) left (replies_in bytes)) (λ es after. After after) m (history_after_all h at.es)
        → Goes host (AreOfRunBy host Left script (replies_in (at.bytes ++ bytes))) (λ es after. After after) m h
    goes_on Left bytes m After went =
        let same : history_after_all (history_after_all h at.es) went.es ≡ history_after_all h (at.es ++ went.es) = sym (after_more history_after h at.es went.es) in
        record {
          es = at.es ++ went.es;
          course = course_more history_after (Happening host) h at.es went.es at.course went.course;
          come = come_on Left bytes went.es went.come;
          stands = subst (λ (g : History). StandsAt host g m) same went.stands;
          after = subst After same went.after;
        }

    -- what the stretch met, the run met
    pub met_on : (v m : Tale) → IsSince v m → HasMetInLines host left now u v (history_after_all h at.es) → HasMetInRun host script t m h
    met_on v m since met = inr (record {
      began = met.began;
      since = since_more t u met.began at.since met.since;
      before = since_more met.began v m met.before since;
      bytes = at.bytes ++ met.bytes;
      is_told = told_on met.began met.bytes met.is_told;
      replies = replies_more script left at.bytes met.bytes at.replies at.left_is met.replies;
      met = goes_on AtBoot met.bytes met.began (λ after. MeetsStaleAt host after met.began) met.met;
    })

    -- events of lines that were told, one behind the other
    pub record CameBehind (new : Memory) (rest : Script) (v : Tale) : Type 0 where
      pub fs : List Event
      pub course : machine.IsCourse history_after (Happening host) (history_after_all h at.es) fs
      pub bytes : List ℕ
      pub is_told : told v ≡ told u ++ bytes
      pub come : ComeOf host (NothingLeft (context_of new)) (context_of now) left (replies_in bytes) fs
      pub behind_it : HasCome new rest v
      pub all : behind_it.es ≡ at.es ++ fs

    pub come_lines : (new : Memory) (rest : Script) (v m : Tale) → RanTo host left now new rest u v → IsSince v m → HasMetNothing m → CameBehind new rest v
    unfolding goes_on
    come_lines new rest v m ran since none = by (ran.goes (history_after_all h at.es) at.known) where
      by : HasMetInLinesTold host left now u v (history_after_all h at.es) ⊎ Goes host (ComeOf host (NothingLeft (context_of new)) (context_of now) left (replies_in ran.bytes)) (λ es after. IsKnown host new after v) v (history_after_all h at.es) → CameBehind new rest v
      by (inl met) = absurd (none (met_on v m since met.0))
      by (inr went) =
          let on = goes_on (NothingLeft (context_of new)) ran.bytes v (λ after. IsKnown host new after v) went in
          record {
            fs = went.es;
            course = went.course;
            bytes = ran.bytes;
            is_told = ran.is_told;
            come = went.come;
            behind_it = record {
              bytes = at.bytes ++ ran.bytes;
              is_told = told_on v ran.bytes ran.is_told;
              replies = replies_more script left at.bytes ran.bytes at.replies at.left_is ran.replies;
              left_is = behind_both script left at.bytes ran.bytes at.replies at.left_is rest ran.left_is;
              since = since_more t u v at.since ran.since;
              es = on.es;
              course = on.course;
              come = on.come;
              known = on.after;
            };
            all = refl;
          }

    -- and of the line in work, whatever of it was told
    pub record CameInWork (m : Tale) : Type 0 where
      pub fs : List Event
      pub course : machine.IsCourse history_after (Happening host) (history_after_all h at.es) fs
      pub bytes : List ℕ
      pub come : ComeOf host (InWork host (left_in bytes)) (context_of now) left (replies_in bytes) fs
      pub is_told : told m ≡ told t ++ (at.bytes ++ bytes)
      pub all : AreOfRun host script (at.bytes ++ bytes) (at.es ++ fs)
      pub stands : StandsAt host (history_after_all h (at.es ++ fs)) m

    pub come_work : (m : Tale) → LinesMoment host left now u m → IsSince m m → HasMetNothing m → CameInWork m
    unfolding goes_on
    come_work m work since none = by (work.goes (history_after_all h at.es) at.known) where
      by : HasMetInLines host left now u m (history_after_all h at.es) ⊎ Goes host (ComeOf host (InWork host (left_in work.bytes)) (context_of now) left (replies_in work.bytes)) Reached m (history_after_all h at.es) → CameInWork m
      by (inl met) = absurd (none (met_on m m since met))
      by (inr went) =
          let on = goes_on (InWork host (left_in work.bytes)) work.bytes m (λ g. Unit {0}) went in
          record {
            fs = went.es;
            course = went.course;
            bytes = work.bytes;
            come = went.come;
            is_told = told_on m work.bytes work.is_told;
            all = subst (λ (l : List ℕ). AreOfRunBy host (InWork host l) script (replies_in (at.bytes ++ work.bytes)) (at.es ++ went.es)) (sym (at.replies.left work.bytes)) on.come;
            stands = on.stands;
          }

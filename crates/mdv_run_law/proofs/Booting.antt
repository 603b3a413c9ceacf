-- A boot, as a line of the script and as the start of a run.
use Rattle.std.proofs.Common.{◌≡◌, ◌⊎◌, inl, inr, ℕ, List, [], ◌∷◌, ◌++◌, Some, Contains, refl, sym, ◌∙◌, ap, subst, arith}
use Rattle.std.proofs.lemmas.List.{append-nil}
use Rattle.mdv_run_law.specs.Below.{Drives, Entry, Script, line, ok_line, Tale, told, Said, left_in, replies_in, Boot, IsLine, History, Deed, Created, Event, history_after, history_after_all, Happening, BootBegins, Host, key_of, site_area, Nothing, ToBoot, Memory, Acks, AcksIn, AreOwn, Reached, StaysHome, issuable, issuable_in, issuable_of, StandsAt, IsKnown, BootMoment, BootedTo, TurnMoment, Turned}
use Rattle.mdv_store_law.proofs.Machine.{after_more, course_more}
use Rattle.mdv_engine_law.proofs.Booting.{booted_first}
use Rattle.mdv_engine_law.proofs.Plain.{nothing_answers, nothing_said, nothing_acked, nothing_issuable}
use Rattle.mdv_engine_law.proofs.Going.{goes_more}
use Rattle.mdv_store_law.proofs.Parts.{part_itself}
use Rattle.mdv_volumes.specs.History.{Boots}
use Rattle.mdv_volumes.proofs.Lists.{contains_first}
use Rattle.mdv_engine_law.proofs.Staying.{stays_more, stays_on_site, stays_same}
use Rattle.mdv_shelf.proofs.Frame.{kept_outside_more}
use Rattle.mdv_engine_law.specs.Standing as turn
use Rattle.mdv_engine_law.specs.Standing.{MeetsStaleAt}
use Rattle.mdv_shelf.specs.Moments.{IsSince}
use Rattle.mdv_run_law.specs.Standing.{AsksBy, AreIdle, AreOfRun, AreOfRunBy, AtBoot, ComeOf, Context, Goes, HasMetInLines, HasMetInRun, InWork, IsTold, behind, context_of, LinesMoment, RanTo, RunMoment}
use Rattle.mdv_run_law.proofs.Lining.{replies_none, told_more}
use Rattle.mdv_run_law.proofs.Since.{since_itself, since_more}
use Rattle.mdv_run_law.proofs.Coming.{behind_none, told_none, in_work_none}
use Rattle.mdv_run_law.proofs.Made.{run_shows}
use Rattle.mdv_run_law.proofs.Turning.{front_come, none_acked, nothing_met, only_reply, reply_come, reply_replies, went_on}

module _ (host : Host) where
  never : (done : List Deed) → done ≡ [] → Contains done (Created (key_of host)) → ⊥
  never done none has = absurd (let in_none : Contains [] (Created (key_of host)) = subst (λ (l : List Deed). Contains l (Created (key_of host))) none has in omega (arith, in_none.1))

  -- a boot acknowledges what a line does that asks nothing, and lets begin no more
  boot_acks : (bytes : List ℕ) (done : List Deed) → Acks Nothing bytes done → Acks ToBoot bytes done
  boot_acks bytes done acks = by (replies_in bytes) acks where
    by : (replies : List (List ℕ)) → AcksIn Nothing replies (left_in bytes) done → AcksIn ToBoot replies (left_in bytes) done
    by [] acks = acks
    by (reply ∷ more) acks = acks

  boot_lets : (bytes : List ℕ) → issuable_of Nothing bytes ≡ issuable_of ToBoot bytes
  boot_lets bytes = by (replies_in bytes) where
    by : (replies : List (List ℕ)) → issuable_in Nothing replies (left_in bytes) ≡ issuable_in ToBoot replies (left_in bytes)
    by [] = refl
    by (reply ∷ more) = refl

  -- while the host boots nothing is told
  pub boot_turn : (old : Memory) (t m : Tale) → BootMoment host t m → TurnMoment host ToBoot old t m
  boot_turn old t m moment = record {
    home = stays_on_site host t m moment.kept;
    within = moment.kept;
    bytes = [];
    is_told = moment.quiet ∙ sym (append-nil (told t));
    front = inl nothing_said;
    done = [];
    acks = nothing_acked ToBoot;
    free = λ has. absurd (never [] refl has);
    goes = λ h known. elim (moment.goes h known.stands) [
      | inl met ↦ inl met
      | inr went ↦ inr (subst (λ (may : List Deed). turn.Goes host may [] turn.Reached m h) (sym (nothing_issuable ToBoot)) (record { es = went.es; course = went.course; come = went.come; stands = went.stands; after = tt }))
    ];
  }

  -- a line that boots meets a stale vote as it begins
  line_met : (text : List ℕ) (more : Script) → IsLine text Boot → (old : Memory) (t m : Tale) → IsSince t m → (h : History) → StandsAt host h t → MeetsStaleAt host h t → HasMetInLines host (line text more) old t m h
  line_met text more is old t m since h stands met = record {
    began = t;
    since = since_itself t;
    before = since;
    bytes = [];
    is_told = sym (append-nil (told t));
    replies = replies_none;
    met = record { es = []; course = tt; come = subst (λ (l : List (List ℕ)). ComeOf host AtBoot (context_of old) (line text more) l []) (sym nothing_answers) (refl, is); stands = stands; after = met };
  }

  module _ (old new : Memory) (t u : Tale) (booted : BootedTo host new t u) (begun : new.begun ≡ old.begun) where
    own_too : (h : History) → IsKnown host old h t → AreOwn host new.begun h
    own_too h known = subst (λ (n : ℕ). AreOwn host n h) (sym begun) known.its

    told_both : (m : Tale) (bytes : List ℕ) → told m ≡ told u ++ bytes → told m ≡ told t ++ bytes
    told_both m bytes more = more ∙ ap (λ (l : List ℕ). l ++ bytes) booted.quiet

    -- the events of a boot, and those of a turn behind it
    booted_both : (done asks : List Deed) (After : List Event → History → Type 0) (m : Tale) (h : History) → IsKnown host old h t → ((g : History) → IsKnown host new g u → turn.Goes host asks done After m g)
        → MeetsStaleAt host h t ⊎ turn.Goes host asks done (λ es after. BootBegins (key_of host) new.up es × ((fs : List Event) × After fs after)) m h
    booted_both done asks After m h known then_goes = elim (booted.goes h known.stands (own_too h known)) [
      | inl met ↦ inl met
      | inr up ↦ inr (goes_more host [] asks asks [] done (λ es g. IsKnown host new g u × BootBegins (key_of host) new.up es) (λ es after. BootBegins (key_of host) new.up es × ((fs : List Event) × After fs after)) u m h (part_itself asks) up
          (λ es g there before. (
          let went = then_goes g before.0 in record { es = went.es; course = went.course; come = went.come; stands = went.stands; after = (booted_first (key_of host) new.up es went.es before.1, (went.es, went.after)) }
          )))
    ]

    -- while the `ok` of a line `boot` is told
    boot_goes : (m : Tale) (moment : TurnMoment host Nothing new u m) (g : History) → IsKnown host new g u → turn.Goes host (issuable_of ToBoot moment.bytes) moment.done turn.Reached m g
    boot_goes m moment g known = subst (λ (may : List Deed). turn.Goes host may moment.done turn.Reached m g) (boot_lets moment.bytes) (went_on host Nothing u (nothing_met host u) g (moment.goes g known))

    pub booted_turn : (m : Tale) → TurnMoment host Nothing new u m → TurnMoment host ToBoot old t m
    booted_turn m moment =
        let none = none_acked moment.bytes moment.done moment.acks in
        record {
          home = stays_more host t u m (stays_on_site host t u booted.kept) moment.home;
          within = kept_outside_more (site_area host.site) t u m booted.kept (λ drive block out. moment.within drive block refl);
          bytes = moment.bytes;
          is_told = told_both m moment.bytes moment.is_told;
          front = moment.front;
          done = moment.done;
          acks = boot_acks moment.bytes moment.done moment.acks;
          free = λ has. absurd (never moment.done none has);
          goes = λ h known. elim (booted_both moment.done (issuable_of ToBoot moment.bytes) turn.Reached m h known (λ g known. boot_goes m moment g known)) [
            | inl met ↦ inl met
            | inr both ↦ inr (record { es = both.es; course = both.course; come = both.come; stands = both.stands; after = tt })
          ];
        }

    -- of the line itself too
    pub booted_line : (text : List ℕ) (more : Script) → IsLine text Boot → (m : Tale) → IsSince t m → TurnMoment host Nothing new u m → LinesMoment host (line text more) old t m
    booted_line text more is m since moment =
        let asks : AsksBy host text moment.bytes ToBoot = inl (inr (Boot, is, refl)) in
        let acks = boot_acks moment.bytes moment.done moment.acks in
        record {
          bytes = moment.bytes;
          is_told = told_both m moment.bytes moment.is_told;
          since = since;
          home = stays_more host t u m (stays_on_site host t u booted.kept) moment.home;
          goes = λ h known. elim (booted_both moment.done (issuable_of ToBoot moment.bytes) turn.Reached m h known (λ g known. boot_goes m moment g known)) [
            | inl met ↦ inl (line_met text more is old t m since h known.stands met)
            | inr both ↦ inr (record { es = both.es; course = both.course; come = front_come host text ToBoot more old moment.bytes asks moment.front moment.done acks both.es both.come (λ boot ok. (new.up, both.after.0)); stands = both.stands; after = tt })
          ];
        }

    -- and once it is
    pub booted_ran : (text : List ℕ) (more : Script) → IsLine text Boot → new.entries ≡ [] → (v : Tale) → IsSince t v → (turned : Turned host Nothing new new u v) → StaysHome host u v → turned.bytes ≡ ok_line → RanTo host (line text more) old new more t v
    unfolding line_met
    booted_ran text more is fresh v since turned home ok =
        let asks : AsksBy host text turned.bytes ToBoot = inl (inr (Boot, is, refl)) in
        record {
          bytes = turned.bytes;
          is_told = told_both v turned.bytes turned.is_told;
          replies = reply_replies turned.bytes turned.reply;
          left_is = ap (behind (line text more)) (only_reply turned.bytes turned.reply) ∙ behind_none more;
          since = since;
          home = stays_more host t u v (stays_on_site host t u booted.kept) home;
          knows = λ known. turned.knows booted.knows;
          goes = λ h known. elim (booted_both turned.done (issuable ToBoot turned.bytes) (λ es after. IsKnown host new after v) v h known (λ g known. went_on host Nothing u (nothing_met host u) g (turned.goes g known))) [
            | inl met ↦ inl (line_met text more is old t v since h known.stands met, told_more t v turned.bytes (told_both v turned.bytes turned.is_told) turned.reply)
            | inr both ↦ inr (record {
              es = both.es;
              course = both.course;
              come = reply_come host text ToBoot more old new turned.bytes asks turned.reply turned.done turned.acks both.es both.come (λ boot ok. (new.up, both.after.0)) (inl (is, ok, fresh));
              stands = both.stands;
              after = both.after.1.1;
            })
          ];
        }

  -- while the host boots for a line
  pub boot_line : (text : List ℕ) (more : Script) → IsLine text Boot → (old : Memory) (t m : Tale) → IsSince t m → BootMoment host t m → LinesMoment host (line text more) old t m
  unfolding boot_turn
  boot_line text more is old t m since moment =
      let turned = boot_turn old t m moment in
      let asks : AsksBy host text [] ToBoot = inl (inr (Boot, is, refl)) in
      record {
        bytes = [];
        is_told = turned.is_told;
        since = since;
        home = turned.home;
        goes = λ h known. elim (turned.goes h known) [
          | inl met ↦ inl (line_met text more is old t m since h known.stands met)
          | inr went ↦ inr (record { es = went.es; course = went.course; come = front_come host text ToBoot more old [] asks turned.front [] turned.acks went.es went.come (λ boot ok. absurd (no_bytes ok)); stands = went.stands; after = tt })
        ];
      }
    where
      no_bytes : [] ≡ ok_line → ⊥
      no_bytes is = cc (is)

  -- the boot at a run's start
  module _ (script : Script) where
    abbrev unread : Context
    unread = Some []

    nothing_come : ComeOf host (InWork host (left_in [])) unread script (replies_in []) []
    nothing_come = subst (λ (s : Said). ComeOf host (InWork host s.left) unread script s.replies []) (sym nothing_said) (in_work_none host unread script)

    -- events of a boot that didn't read the drive, or not yet
    only_booted : (es : List Event) (up : Drives) → AreIdle host es → BootBegins (key_of host) up es → AreOfRun host script [] es
    only_booted es up idle booted = record { boot = es; lines = []; both = sym (append-nil es); idle = idle; booted = (up, booted); come = nothing_come }

    nothing_told : (deed : Deed) → IsTold host script (replies_in []) deed → ⊥
    nothing_told deed is = told_none host script deed (subst (λ (l : List (List ℕ)). IsTold host script l deed) nothing_answers is)

    -- the moments of a run that has told nothing
    untold : (t m : Tale) → told m ≡ told t → StaysHome host t m → ((h : History) → StandsAt host h t → AreOwn host 0 h → HasMetInRun host script t m h ⊎ Goes host (AreOfRun host script []) Reached m h) → RunMoment host script t m
    untold t m quiet home goes = record {
      bytes = [];
      is_told = quiet ∙ sym (append-nil (told t));
      home = home;
      made = λ h stands own is never. absurd (nothing_told (Created (key_of host)) is);
      stands = goes;
    }

    pub boot_run : (t m : Tale) → BootMoment host t m → RunMoment host script t m
    boot_run t m moment = untold t m moment.quiet (stays_on_site host t m moment.kept)
        (λ h stands own. elim (moment.goes h stands) [
          | inl met ↦ inl (inl met)
          | inr went ↦ inr (record { es = went.es; course = went.course; come = only_booted went.es went.after.0 went.come went.after.1; stands = went.stands; after = tt })
        ])

    -- the lines behind it
    module _ (memory : Memory) (t u : Tale) (fresh : memory.entries ≡ []) (first : memory.begun ≡ 0) (since : IsSince t u) (booted : BootedTo host memory t u) where
      abbrev Up : List Event → History → Type 0
      Up es after = IsKnown host memory after u × BootBegins (key_of host) memory.up es

      -- a history goes on by the events of the boot
      abbrev pub BootGoes : History → Type 0
      BootGoes h = turn.Goes host [] [] Up u h

      -- and by those of lines behind it
      abbrev pub LinesGo : (Context → Script → List Event → Type 0) → List (List ℕ) → Tale → (History → Type 0) → History → Type 0
      LinesGo Left replies v After g = Goes host (ComeOf host Left (context_of memory) script replies) (λ es after. After after) v g

      -- which are those of a run
      pub run_goes : (Left : Context → Script → List Event → Type 0) (replies : List (List ℕ)) (v : Tale) (After : History → Type 0) (h : History) → (up : BootGoes h) → LinesGo Left replies v After (history_after_all h up.es) → Goes host (AreOfRunBy host Left script replies) (λ es after. After after) v h
      run_goes Left replies v After h up lines =
          let same : history_after_all (history_after_all h up.es) lines.es ≡ history_after_all h (up.es ++ lines.es) = sym (after_more history_after h up.es lines.es) in
          record {
            es = up.es ++ lines.es;
            course = course_more history_after (Happening host) h up.es lines.es up.course lines.course;
            come = record { boot = up.es; lines = lines.es; both = refl; idle = up.come; booted = (memory.up, up.after.1); come = subst (λ (es : List Entry). ComeOf host Left (Some es) script replies lines.es) fresh lines.come };
            stands = subst (λ (x : History). StandsAt host x v) same lines.stands;
            after = subst After same lines.after;
          }

      -- a boot that a line asked met a stale vote
      pub lines_met : (m : Tale) (h : History) → (up : BootGoes h) → HasMetInLines host script memory u m (history_after_all h up.es) → HasMetInRun host script t m h
      lines_met m h up met = inr (record {
        began = met.began;
        since = since_more t u met.began since met.since;
        before = met.before;
        bytes = met.bytes;
        is_told = met.is_told ∙ ap (λ (l : List ℕ). l ++ met.bytes) booted.quiet;
        replies = met.replies;
        met = run_goes AtBoot (replies_in met.bytes) met.began (λ after. MeetsStaleAt host after met.began) h up met.met;
      })

      module _ (m : Tale) (lines : LinesMoment host script memory u m) where
        behind_goes : (h : History) → (up : BootGoes h) → HasMetInLines host script memory u m (history_after_all h up.es) ⊎ LinesGo (InWork host (left_in lines.bytes)) (replies_in lines.bytes) m (λ g. Unit {0}) (history_after_all h up.es)
            → HasMetInRun host script t m h ⊎ Goes host (AreOfRun host script lines.bytes) Reached m h
        behind_goes h up (inl met) = inl (lines_met m h up met)
        behind_goes h up (inr went) = inr (run_goes (InWork host (left_in lines.bytes)) (replies_in lines.bytes) m (λ g. Unit {0}) h up went)

        lines_goes : (h : History) → StandsAt host h t → AreOwn host 0 h → HasMetInRun host script t m h ⊎ Goes host (AreOfRun host script lines.bytes) Reached m h
        lines_goes h stands own = elim (booted.goes h stands (subst (λ (n : ℕ). AreOwn host n h) (sym first) own)) [
          | inl met ↦ inl (inl met)
          | inr up ↦ behind_goes h up (lines.goes (history_after_all h up.es) up.after.0)
        ]

        pub lines_run : RunMoment host script t m
        lines_run = record {
          bytes = lines.bytes;
          is_told = lines.is_told ∙ ap (λ (l : List ℕ). l ++ lines.bytes) booted.quiet;
          home = stays_more host t u m (stays_on_site host t u booted.kept) lines.home;
          made = λ h stands own is never. elim (lines_goes h stands own) [
            | inl met ↦ inl met
            | inr went ↦ inr (run_shows host script lines.bytes t m h stands never went is)
          ];
          stands = lines_goes;
        }

    -- a moment before anything was done
    pub nothing_run : (t : Tale) → RunMoment host script t t
    nothing_run t = untold t t refl (stays_same host t) (λ h stands own. inr (record {
      es = Boots (key_of host) [] ∷ [];
      course = ((tt, tt), tt);
      come = only_booted (Boots (key_of host) [] ∷ []) [] (record { tells = refl; issues = (tt, tt); begins = tt }) (contains_first (Boots (key_of host) []) []);
      stands = record { databases = stands.databases; laid = stands.laid; apart = stands.apart; volumes = stands.volumes };
      after = tt;
    }))

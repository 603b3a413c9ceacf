-- One turn, told by the script before it.
use Rattle.std.proofs.Common.{◌≡◌, ◌⊎◌, inl, inr, ℕ, Bool, true, false, ◌||◌, cond, List, [], ◌∷◌, ◌++◌, Option, Some, None, refl, sym, ◌∙◌, ap, subst}
use Rattle.std.specs.Str.{bytes_eq}
use Rattle.std.proofs.lemmas.Slice.Eq.{bytes_eq-Decides}
use Rattle.mdv_base.specs.declared.refusal.Refusal.TheVariants.{IoFault}
use Rattle.mdv_engine_law.specs.Standing.{HasMet}
use Rattle.mdv_shelf.specs.Moments.{IsSince}
use Rattle.mdv_run_law.specs.Below.{AddListed, AddPlaces, Alter, Command, DropPlaces, History, PlanChange, Print, Read, Write, asked_by, change_asked, change_of, Drives, Script, too_long, line, Tale, Said, StaysHome, left_in, replies_in, Boot, IsLine, Deed, Event, Host, key_of, Ask, Nothing, Memory, IsFront, IsReply, Acks, AcksBy, AcksFront, AcksIn, is_front_of, issuable, issuable_front, issuable_in, issuable_of, ok_line, refusal_line, BootBegins, Does, Knows, TurnMoment, Turned}
use Rattle.mdv_run_law.specs.Standing.{AsksBy, AreIdle, AreOfLine, ComeOf, context_of, HasEntries, InWork, IsWanting, NothingLeft, AreReplies, behind, LinesMoment, RanTo}
use Rattle.mdv_run_law.proofs.Coming.{behind_none, no_ok, in_work_none, come_line, come_long}
use Rattle.mdv_shelf.proofs.Moments.{some_is}

-- a whole reply is whole replies
pub reply_replies : (bytes : List ℕ) → IsReply bytes → AreReplies bytes
reply_replies bytes is = record {
  replies = λ rest. ap (λ (s : Said). s.replies) (is.behind rest) ∙ ap (λ (l : List (List ℕ)). l ++ replies_in rest) (sym (ap (λ (s : Said). s.replies) is.alone));
  left = λ rest. ap (λ (s : Said). s.left) (is.behind rest);
}

-- which is the one among its bytes
pub only_reply : (bytes : List ℕ) → IsReply bytes → replies_in bytes ≡ bytes ∷ []
only_reply bytes is = ap (λ (s : Said). s.replies) is.alone

-- no boot begins with the line
abbrev pub MeetsNone : Host → Ask → Tale → Type 0
MeetsNone host ask t = (h : History) → HasMet host ask h t → ⊥

-- so each history goes on
pub went_on : {A : Type 0} (host : Host) (ask : Ask) (t : Tale) → MeetsNone host ask t → (h : History) → HasMet host ask h t ⊎ A → A
went_on host ask t none h (inl met) = absurd (none h met)
went_on host ask t none h (inr went) = went

-- as where nothing is asked, or a command
pub nothing_met : (host : Host) (t : Tale) → MeetsNone host Nothing t
nothing_met host t h met = met

-- nor does a change of volumes
change_met : (host : Host) (change : Option PlanChange) (t : Tale) → MeetsNone host (change_asked host change) t
change_met host None t h met = met
change_met host (Some change) t h met = met

pub command_met : (host : Host) (command : Command) (t : Tale) → MeetsNone host (asked_by host command) t
command_met host (AddPlaces slices force count blocks) t h met = met
command_met host (AddListed number force) t h met = met
command_met host (DropPlaces slices force) t h met = met
command_met host (Alter alteration) t h met = change_met host (change_of alteration) t h met
command_met host (Read volume at count) t h met = met
command_met host (Write volume at what) t h met = met
command_met host (Print names) t h met = met

-- one turn, told by the script before it
module _ (host : Host) (script : Script) (ask : Ask) (old : Memory) (t : Tale) where
  pub turn_lines : MeetsNone host ask t → (m : Tale) → IsSince t m → (moment : TurnMoment host ask old t m) → ((es : List Event) → Does host (issuable_of ask moment.bytes) moment.done es → ComeOf host (InWork host (left_in moment.bytes)) (context_of old) script (replies_in moment.bytes) es)
      → LinesMoment host script old t m
  turn_lines none m since moment come = record {
    bytes = moment.bytes;
    is_told = moment.is_told;
    since = since;
    home = moment.home;
    goes = λ h known.
        let went = went_on host ask t none h (moment.goes h known) in
        inr (record { es = went.es; course = went.course; come = come went.es went.come; stands = went.stands; after = tt });
  }

  pub turn_ran : MeetsNone host ask t → (new : Memory) (left : Script) (u : Tale) → IsSince t u → (turned : Turned host ask old new t u) → StaysHome host t u
      → (Knows host old t → (es : List Event) → Does host (issuable ask turned.bytes) turned.done es → ComeOf host (NothingLeft (context_of new)) (context_of old) script (replies_in turned.bytes) es)
      → behind script (replies_in turned.bytes) ≡ left → RanTo host script old new left t u
  turn_ran none new left u since turned home come left_is = record {
    bytes = turned.bytes;
    is_told = turned.is_told;
    replies = reply_replies turned.bytes turned.reply;
    left_is = left_is;
    since = since;
    home = home;
    knows = turned.knows;
    goes = λ h known.
        let went = went_on host ask t none h (turned.goes h known) in
        inr (record { es = went.es; course = went.course; come = come known.knows went.es went.come; stands = went.stands; after = went.after });
  }

-- A line that isn't `boot`, or whose reply begins as the one that memory was wanting.
abbrev pub IsNoBoot : List ℕ → List ℕ → Type 0
IsNoBoot text bytes = (IsLine text Boot → ⊥) ⊎ IsWanting bytes

-- no such line boots and is told `ok`
pub never_boots : (text bytes : List ℕ) → IsNoBoot text bytes → IsLine text Boot → bytes ≡ ok_line → ⊥
never_boots text bytes (inl never) boot ok = never boot
never_boots text bytes (inr wanting) boot ok = no_ok bytes wanting ((bytes_eq-Decides bytes ok_line).1 ok)

-- a front of a reply to a line, and a whole one
module _ (host : Host) (text : List ℕ) (ask : Ask) (more : Script) where
  pub front_come : (old : Memory) (bytes : List ℕ) → AsksBy host text bytes ask → IsFront bytes → (done : List Deed) → Acks ask bytes done → (es : List Event) → Does host (issuable_of ask bytes) done es → (IsLine text Boot → bytes ≡ ok_line → (up : Drives) × BootBegins (key_of host) up es)
      → ComeOf host (InWork host (left_in bytes)) (context_of old) (line text more) (replies_in bytes) es
  front_come old bytes asks (inl none) done acks es does boots =
      let front : AcksFront ask bytes done = subst (λ (s : Said). AcksIn ask s.replies s.left done) none acks in
      let does_so : Does host (issuable_front ask bytes) done es = subst (λ (s : Said). Does host (issuable_in ask s.replies s.left) done es) none does in
      subst (λ (s : Said). ComeOf host (InWork host s.left) (context_of old) (line text more) s.replies es) (sym none) (inr ((old.entries, refl), record { ask = ask; asks = asks; done = done; acks = front; does = does_so }))
  front_come old bytes asks (inr one) done acks es does boots =
      let by : AcksBy ask bytes done = subst (λ (s : Said). AcksIn ask s.replies s.left done) one acks in
      let here : AreOfLine host text (context_of old) bytes es None = record {
        ask = ask;
        asks = asks;
        done = done;
        acks = by;
        does = subst (λ (s : Said). Does host (issuable_in ask s.replies s.left) done es) one does;
        boots = boots;
        kept = λ entries is. absurd (cc (is));
      } in
      subst (λ (s : Said). ComeOf host (InWork host s.left) (context_of old) (line text more) s.replies es) (sym one) (come_line host (InWork host []) (context_of old) None text more bytes es here (in_work_none host None more))

  -- A turn of a line that is no boot, or that memory was wanting to read.
  pub line_moment : (old : Memory) (t m : Tale) → MeetsNone host ask t → IsSince t m → (moment : TurnMoment host ask old t m) → AsksBy host text moment.bytes ask → IsNoBoot text moment.bytes → LinesMoment host (line text more) old t m
  line_moment old t m none since moment asks other =
      turn_lines host (line text more) ask old t none m since moment
      (λ es does. front_come old moment.bytes asks moment.front moment.done moment.acks es does (λ boot ok. absurd (never_boots text moment.bytes other boot ok)))

  pub reply_come : (old new : Memory) (bytes : List ℕ) → AsksBy host text bytes ask → (is : IsReply bytes) (done : List Deed) → AcksBy ask bytes done → (es : List Event) → Does host (issuable ask bytes) done es → (IsLine text Boot → bytes ≡ ok_line → (up : Drives) × BootBegins (key_of host) up es)
      → HasEntries text bytes (Some old.entries) new.entries → ComeOf host (NothingLeft (context_of new)) (context_of old) (line text more) (replies_in bytes) es
  reply_come old new bytes asks is done acks es does boots entries =
      let here : AreOfLine host text (context_of old) bytes es (context_of new) = record {
        ask = ask;
        asks = asks;
        done = done;
        acks = acks;
        does = does;
        boots = boots;
        kept = λ es is. subst (HasEntries text bytes (Some old.entries)) (some_is (Some new.entries) new.entries es refl is) entries;
      } in
      subst (λ (l : List (List ℕ)). ComeOf host (NothingLeft (context_of new)) (context_of old) (line text more) l es) (sym (only_reply bytes is)) (come_line host (NothingLeft (context_of new)) (context_of old) (context_of new) text more bytes es here (refl, refl))

  -- And one whose reply was told whole. What it leaves in memory may be known only where the drive is.
  pub line_ran : (old new : Memory) (t u : Tale) → MeetsNone host ask t → IsSince t u → (turned : Turned host ask old new t u) → StaysHome host t u → AsksBy host text turned.bytes ask → IsNoBoot text turned.bytes → (Knows host old t → HasEntries text turned.bytes (Some old.entries) new.entries) → RanTo host (line text more) old new more t u
  line_ran old new t u none since turned home asks other leaves =
      turn_ran host (line text more) ask old t none new more u since turned home
      (λ knows es does. reply_come old new turned.bytes asks turned.reply turned.done turned.acks es does (λ boot ok. absurd (never_boots text turned.bytes other boot ok)) (leaves knows))
      (ap (behind (line text more)) (only_reply turned.bytes turned.reply) ∙ behind_none more)

-- where nothing is asked nothing is acknowledged
pub none_acked : (bytes : List ℕ) (done : List Deed) → Acks Nothing bytes done → done ≡ []
none_acked bytes done acks = by (replies_in bytes) acks where
  by : (replies : List (List ℕ)) → AcksIn Nothing replies (left_in bytes) done → done ≡ []
  by [] is = is
  by (reply ∷ replies) is = is

-- and nothing may be begun
either_none : (x : Bool) → ◌≡◌ {A = List Deed} (cond x [] []) []
either_none true = refl
either_none false = refl

none_issuable_by : (reply : List ℕ) → issuable Nothing reply ≡ []
none_issuable_by reply = either_none (bytes_eq reply ok_line || bytes_eq reply (refusal_line IoFault))

none_issuable : (bytes : List ℕ) → issuable_of Nothing bytes ≡ []
none_issuable bytes = by (replies_in bytes) where
  by : (replies : List (List ℕ)) → issuable_in Nothing replies (left_in bytes) ≡ []
  by [] = either_none (is_front_of ok_line (left_in bytes) || is_front_of (refusal_line IoFault) (left_in bytes))
  by (reply ∷ replies) = none_issuable_by reply

-- the same of a line that was too long, by which nothing is asked
module _ (host : Host) (more : Script) (old : Memory) where
  idle : (may done : List Deed) → may ≡ [] → done ≡ [] → (es : List Event) → Does host may done es → AreIdle host es
  idle may done nothing none es does = subst (λ (l : List Deed). Does host [] l es) none (subst (λ (l : List Deed). Does host l done es) nothing does)

  long_come : (bytes : List ℕ) → IsFront bytes → (done : List Deed) → Acks Nothing bytes done → (es : List Event) → Does host (issuable_of Nothing bytes) done es → ComeOf host (InWork host (left_in bytes)) (context_of old) (too_long more) (replies_in bytes) es
  long_come bytes front done acks es does = by front (idle (issuable_of Nothing bytes) done (none_issuable bytes) (none_acked bytes done acks) es does) where
    by : IsFront bytes → AreIdle host es → ComeOf host (InWork host (left_in bytes)) (context_of old) (too_long more) (replies_in bytes) es
    by (inl none) quiet = subst (λ (s : Said). ComeOf host (InWork host s.left) (context_of old) (too_long more) s.replies es) (sym none) quiet
    by (inr one) quiet = subst (λ (s : Said). ComeOf host (InWork host s.left) (context_of old) (too_long more) s.replies es) (sym one) (come_long host (InWork host []) (context_of old) more bytes es quiet (in_work_none host (context_of old) more))

  pub long_moment : (t m : Tale) → IsSince t m → TurnMoment host Nothing old t m → LinesMoment host (too_long more) old t m
  long_moment t m since moment = turn_lines host (too_long more) Nothing old t (nothing_met host t) m since moment (long_come moment.bytes moment.front moment.done moment.acks)

  pub long_ran : (t u : Tale) → IsSince t u → Turned host Nothing old old t u → StaysHome host t u → RanTo host (too_long more) old old more t u
  long_ran t u since turned home =
      turn_ran host (too_long more) Nothing old t (nothing_met host t) old more u since turned home
      (λ knows es does. subst (λ (l : List (List ℕ)). ComeOf host (NothingLeft (context_of old)) (context_of old) (too_long more) l es) (sym (only_reply turned.bytes turned.reply))
      (come_long host (NothingLeft (context_of old)) (context_of old) more turned.bytes es (idle (issuable Nothing turned.bytes) turned.done (none_issuable_by turned.bytes) turned.acks es does) (refl, refl)))
      (ap (behind (too_long more)) (only_reply turned.bytes turned.reply) ∙ behind_none more)

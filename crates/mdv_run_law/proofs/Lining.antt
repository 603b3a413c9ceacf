-- How the moments of the lines add up.
use Rattle.std.proofs.Common.{◌≡◌, ◌⊎◌, inl, inr, ⊎_elim, ℕ, ◌<◌, List, [], ◌∷◌, ◌++◌, length, refl, sym, ◌∙◌, ap, subst, arith, append_assoc}
use Rattle.std.proofs.lemmas.List.{append-nil, length-append}
use Rattle.mdv_run_law.specs.Below.{Script, Tale, told, Said, left_in, replies_in, History, Event, Host, Memory, StandsAt, Reached, IsKnown, IsReply}
use Rattle.mdv_store_law.proofs.Machine.{goes_more}
use Rattle.mdv_run_law.specs.Below.{Happening, history_after, history_after_all}
use Rattle.mdv_engine_law.proofs.Plain.{nothing_answers, nothing_said}
use Rattle.mdv_engine_law.proofs.Staying.{stays_more, stays_same}
use Rattle.mdv_run_law.specs.Standing.{AtBoot, ComeOf, Context, HasMetBehind, HasMetInLines, HasMetInLinesTold, IsSettled, context_of, InWork, NothingLeft, Goes, behind, AreReplies, LinesMoment, RanTo}
use Rattle.mdv_engine_law.specs.Standing.{MeetsStaleAt}
use Rattle.mdv_shelf.specs.Moments.{IsSince}
use Rattle.mdv_run_law.proofs.Since.{since_itself, since_more}
use Rattle.mdv_run_law.proofs.Coming.{behind_none, behind_more, in_work_none, come_more}

-- nothing happened
goes_nothing : (host : Host) (Come : List Event → Type 0) (After : List Event → History → Type 0) (m : Tale) (h : History) → Come [] → StandsAt host h m → After [] h → Goes host Come After m h
goes_nothing host Come After m h come stands after = record { es = []; course = tt; come = come; stands = stands; after = after }

-- bytes that are whole replies, and what comes behind them
module _ (script left : Script) (a b : List ℕ) (replies : AreReplies a) (left_is : behind script (replies_in a) ≡ left) where
  pub come_behind : (host : Host) (Left : Context → Script → List Event → Type 0) (now down : Context) (es fs : List Event) → IsSettled now → ComeOf host (NothingLeft now) down script (replies_in a) es → ComeOf host Left now left (replies_in b) fs
      → ComeOf host Left down script (replies_in (a ++ b)) (es ++ fs)
  come_behind host Left now down es fs known first second =
      subst (λ (l : List (List ℕ)). ComeOf host Left down script l (es ++ fs)) (sym (replies.replies b))
      (come_more host Left now down script (replies_in a) (replies_in b) es fs known first (subst (λ (s : Script). ComeOf host Left now s (replies_in b) fs) (sym left_is) second))

  pub replies_more : AreReplies b → AreReplies (a ++ b)
  replies_more other = record {
    replies = λ rest.
        ap replies_in (append_assoc a b rest) ∙ replies.replies (b ++ rest) ∙ ap (λ (l : List (List ℕ)). replies_in a ++ l) (other.replies rest)
        ∙ sym (append_assoc (replies_in a) (replies_in b) (replies_in rest)) ∙ ap (λ (l : List (List ℕ)). l ++ replies_in rest) (sym (replies.replies b));
    left = λ rest. ap left_in (append_assoc a b rest) ∙ replies.left (b ++ rest) ∙ other.left rest;
  }

  pub behind_both : (rest : Script) → behind left (replies_in b) ≡ rest → behind script (replies_in (a ++ b)) ≡ rest
  behind_both rest is = ap (behind script) (replies.replies b) ∙ behind_more script (replies_in a) (replies_in b) ∙ ap (λ (s : Script). behind s (replies_in b)) left_is ∙ is

-- a whole reply has a byte
pub reply_some : (bytes : List ℕ) → IsReply bytes → 0 < length bytes
reply_some [] is = (let same : [] ≡ [] ∷ [] = sym nothing_answers ∙ ap (λ (s : Said). s.replies) is.alone in absurd (cc (same)))
reply_some (x ∷ more) is = omega (arith)

-- so a stretch in which one was told is longer than what was told before
pub told_more : (t u : Tale) (bytes : List ℕ) → told u ≡ told t ++ bytes → IsReply bytes → length (told t) < length (told u)
told_more t u bytes is_told reply = omega (arith, reply_some bytes reply, ap (λ (l : List ℕ). length l) is_told ∙ length-append (told t) bytes)

pub replies_none : AreReplies []
replies_none = record { replies = λ rest. ap (λ (l : List (List ℕ)). l ++ replies_in rest) (sym nothing_answers); left = λ rest. refl }

-- a boot that met a stale vote did so for each longer stretch
pub met_longer : (host : Host) (Come : List (List ℕ) → List Event → Type 0) (t u m : Tale) (h : History) → IsSince u m → HasMetBehind host Come t u h → HasMetBehind host Come t m h
met_longer host Come t u m h more met = record { began = met.began; since = met.since; before = since_more met.began u m met.before more; bytes = met.bytes; is_told = met.is_told; replies = met.replies; met = met.met }

module _ (host : Host) (script : Script) (first : Memory) (t : Tale) where
  pub lines_start : LinesMoment host script first t t
  lines_start = record {
    bytes = [];
    is_told = sym (append-nil (told t));
    since = since_itself t;
    home = stays_same host t;
    goes = λ h known. inr (goes_nothing host (ComeOf host (InWork host (left_in [])) (context_of first) script (replies_in [])) Reached t h
        (subst (λ (s : Said). ComeOf host (InWork host s.left) (context_of first) script s.replies []) (sym nothing_said) (in_work_none host (context_of first) script)) known.stands tt);
  }

  pub ran_start : RanTo host script first first script t t
  ran_start = record {
    bytes = [];
    is_told = sym (append-nil (told t));
    replies = replies_none;
    left_is = ap (behind script) nothing_answers ∙ behind_none script;
    since = since_itself t;
    home = stays_same host t;
    knows = λ knows. knows;
    goes = λ h known. inr (goes_nothing host (ComeOf host (NothingLeft (context_of first)) (context_of first) script (replies_in [])) (λ es after. IsKnown host first after t) t h
        (subst (λ (l : List (List ℕ)). ComeOf host (NothingLeft (context_of first)) (context_of first) script l []) (sym nothing_answers) (refl, refl)) known.stands known);
  }

  module _ (now : Memory) (left : Script) (u : Tale) (ran : RanTo host script first now left t u) where
    is_told_both : (m : Tale) (bytes : List ℕ) → told m ≡ told u ++ bytes → told m ≡ told t ++ (ran.bytes ++ bytes)
    is_told_both m bytes more = more ∙ ap (λ (l : List ℕ). l ++ bytes) ran.is_told ∙ append_assoc (told t) ran.bytes bytes

    -- a history goes on by the events of this stretch
    abbrev GoesOn : History → (List Event → History → Type 0) → Type 0
    GoesOn h After = Goes host (ComeOf host (NothingLeft (context_of now)) (context_of first) script (replies_in ran.bytes)) After u h

    -- and by those of one behind it
    abbrev GoesBehind : (Context → Script → List Event → Type 0) → List ℕ → Tale → (History → Type 0) → History → Type 0
    GoesBehind Left bytes m After g = Goes host (ComeOf host Left (context_of now) left (replies_in bytes)) (λ es after. After after) m g

    abbrev GoesBoth : (Context → Script → List Event → Type 0) → List ℕ → Tale → (History → Type 0) → History → Type 0
    GoesBoth Left bytes m After h = Goes host (ComeOf host Left (context_of first) script (replies_in (ran.bytes ++ bytes))) (λ es after. After after) m h

    lines_goes : (Left : Context → Script → List Event → Type 0) (bytes : List ℕ) (m : Tale) (After : History → Type 0) (h : History) → GoesOn h (λ es after. GoesBehind Left bytes m After after) → GoesBoth Left bytes m After h
    lines_goes Left bytes m After h before =
        goes_more history_after (Happening host) (ComeOf host (NothingLeft (context_of now)) (context_of first) script (replies_in ran.bytes)) (ComeOf host Left (context_of now) left (replies_in bytes)) (ComeOf host Left (context_of first) script (replies_in (ran.bytes ++ bytes)))
        (λ g. StandsAt host g u) (λ g. StandsAt host g m) (λ es after. GoesBehind Left bytes m After after) (λ es after. After after) h
        (λ es fs one other. come_behind script left ran.bytes bytes ran.replies ran.left_is host Left (context_of now) (context_of first) es fs (now.entries, refl) one other) before (λ es g stands behind_goes. behind_goes)

    -- the first stretch went on, and is followed by this
    then_goes : {After Then : List Event → History → Type 0} (h : History) (went : GoesOn h After) → Then went.es (history_after_all h went.es) → GoesOn h Then
    then_goes h went next = record { es = went.es; course = went.course; come = went.come; stands = went.stands; after = next }

    -- a boot of the stretch behind met a stale vote
    met_behind : (m : Tale) (h : History) → GoesOn h (λ es after. HasMetInLines host left now u m after) → HasMetInLines host script first t m h
    met_behind m h went =
        let met = went.after in
        record {
          began = met.began;
          since = since_more t u met.began ran.since met.since;
          before = met.before;
          bytes = ran.bytes ++ met.bytes;
          is_told = is_told_both met.began met.bytes met.is_told;
          replies = replies_more script left ran.bytes met.bytes ran.replies ran.left_is met.replies;
          met = lines_goes AtBoot met.bytes met.began (λ after. MeetsStaleAt host after met.began) h (then_goes h went met.met);
        }

    -- Both stretches: a boot of one of them met a stale vote, behind so many bytes, or the history went on by the events of both.
    both_go : (Told : ℕ → Type 0) (Left : Context → Script → List Event → Type 0) (bytes : List ℕ) (m : Tale) (After : History → Type 0) → IsSince u m → ((n : ℕ) → n < length (told u) → Told n) → (h : History) → IsKnown host first h t
        → ((g : History) → IsKnown host now g u → ((met : HasMetInLines host left now u m g) × Told (length (told met.began))) ⊎ GoesBehind Left bytes m After g) → ((met : HasMetInLines host script first t m h) × Told (length (told met.began))) ⊎ GoesBoth Left bytes m After h
    unfolding met_behind then_goes met_longer
    both_go Told Left bytes m After since fewer h known behind_goes = by (ran.goes h known) where
      Both : Type 0
      Both = ((met : HasMetInLines host script first t m h) × Told (length (told met.began))) ⊎ GoesBoth Left bytes m After h

      second : (went : GoesOn h (λ es after. IsKnown host now after u)) → ((met : HasMetInLines host left now u m (history_after_all h went.es)) × Told (length (told met.began))) ⊎ GoesBehind Left bytes m After (history_after_all h went.es) → Both
      second went (inl (met, so)) = inl (met_behind m h (then_goes h went met), so)
      second went (inr more) = inr (lines_goes Left bytes m After h (then_goes h went more))

      by : HasMetInLinesTold host script first t u h ⊎ GoesOn h (λ es after. IsKnown host now after u) → Both
      by (inl (met, less)) = inl (met_longer host (λ replies es. ComeOf host AtBoot (context_of first) script replies es) t u m h since met, fewer (length (told met.began)) less)
      by (inr went) = second went (behind_goes (history_after_all h went.es) went.after)

    -- one stretch more, at each of its moments and once it is over
    pub lines_more_moment : (m : Tale) → LinesMoment host left now u m → LinesMoment host script first t m
    lines_more_moment m lines = record {
      bytes = ran.bytes ++ lines.bytes;
      is_told = is_told_both m lines.bytes lines.is_told;
      since = since_more t u m ran.since lines.since;
      home = stays_more host t u m ran.home lines.home;
      goes = λ h known. subst (λ (l : List ℕ). HasMetInLines host script first t m h ⊎ Goes host (ComeOf host (InWork host l) (context_of first) script (replies_in (ran.bytes ++ lines.bytes))) Reached m h) (sym (ran.replies.left lines.bytes))
          (elim (both_go (λ n. Unit {0}) (InWork host (left_in lines.bytes)) lines.bytes m (λ g. Unit {0}) lines.since (λ n less. tt) h known (λ g is. ⊎_elim (λ met. inl (met, tt)) (λ went. inr went) (lines.goes g is))) [ inl met ↦ inl met.0 | inr went ↦ inr went ]);
    }

    pub ran_more : (new : Memory) (rest : Script) (v : Tale) → RanTo host left now new rest u v → RanTo host script first new rest t v
    ran_more new rest v more = record {
      bytes = ran.bytes ++ more.bytes;
      is_told = is_told_both v more.bytes more.is_told;
      replies = replies_more script left ran.bytes more.bytes ran.replies ran.left_is more.replies;
      left_is = behind_both script left ran.bytes more.bytes ran.replies ran.left_is rest more.left_is;
      since = since_more t u v ran.since more.since;
      home = stays_more host t u v ran.home more.home;
      knows = λ knows. more.knows (ran.knows knows);
      goes = λ h known. both_go (λ n. n < length (told v)) (NothingLeft (context_of new)) more.bytes v (λ after. IsKnown host new after v) more.since (λ n less. omega (arith, less, ap (λ (l : List ℕ). length l) more.is_told ∙ length-append (told u) more.bytes)) h known more.goes;
    }

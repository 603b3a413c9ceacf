-- A line that ends before anything is done, and what is known by what is in memory.
use Rattle.std.proofs.Common.{◌≡◌, inr, ◌≤◌, ℕ, true, List, [], Option, Some, IfSome, refl, sym, ◌∙◌, subst}
use Rattle.mdv_engine_law.specs.Below.{Created, AreWoken, History, Key, MayLeave, last, log_of, Refusal, Tale, Opened, IsOpenedAt, IsOpenIn}
use Rattle.mdv_store.specs.Commit.{IsNewestWritten}
use Rattle.mdv_store_law.specs.Log.{Lives}
use Rattle.mdv_layout_law.specs.Laid.{plain_area}
use Rattle.mdv_engine_law.specs.declared.answer.Answer.TheVariants.{Said, Over}
use Rattle.mdv_engine_law.specs.declared.answer.Ended.TheVariants as ended
use Rattle.mdv_engine_law.specs.declared.answer.Outcome.TheVariants as outcome
use Rattle.mdv_engine_law.specs.declared.host.Host.{Host}
use Rattle.mdv_engine_law.specs.Hosts.{key_of}
use Rattle.mdv_engine_law.specs.Line.{Ask, Memory}
use Rattle.mdv_engine_law.specs.Replies.{issued_by}
use Rattle.mdv_engine_law.specs.Standing.{IsKnown, Knows, IsKnownAfter, CarriedTo, is_steady}
use Rattle.mdv_engine_law.proofs.Going.{not_among, goes_none}
use Rattle.mdv_engine_law.proofs.Knowing.{same_steady, some_more}
use Rattle.mdv_engine_law.proofs.Owning.{own_still}

-- what holds of the database that is open
pub of_opened : (memory : Memory) (o : Opened) (P : Opened → Type 0) → memory.opened ≡ Some o → P o → IfSome memory.opened P
of_opened memory o P opened is = subst (λ (x : Option Opened). IfSome x P) (sym opened) is

pub opened_has : (memory : Memory) (o : Opened) (P : Opened → Type 0) → memory.opened ≡ Some o → IfSome memory.opened P → P o
opened_has memory o P opened is = subst (λ (x : Option Opened). IfSome x P) opened is

-- of each block of a slice for volumes on a steady drive a crash leaves what a read gives
abbrev pub IsFree : Host → Memory → Tale → Type 0
IsFree host memory t = (drive block : ℕ) → is_steady memory drive ≡ true → plain_area host.drives drive block ≡ true → (x : List ℕ) → MayLeave t drive block x → x ≡ last t drive block

-- a database that is open is known by its newest table, and by that
pub knows_opened : (host : Host) (memory : Memory) (o : Opened) (u : Tale) → memory.opened ≡ Some o → o.key ≡ key_of host → IsOpenedAt host.drives o u → IsFree host memory u → Knows host memory u
knows_opened host memory o u opened its is free = record {
  opened = of_opened memory o (λ n. (n.key ≡ key_of host) × IsOpenedAt host.drives n u) opened (its, is);
  steady = free;
}

-- what is known of the one that is open
module _ (host : Host) (memory : Memory) (o : Opened) (is : memory.opened ≡ Some o) (t : Tale) where
  pub knows_its : Knows host memory t → (o.key ≡ key_of host) × IsOpenedAt host.drives o t
  knows_its knows = opened_has memory o (λ n. (n.key ≡ key_of host) × IsOpenedAt host.drives n t) is knows.opened

  pub known_open : (h : History) → IsKnown host memory h t → IsOpenIn host.drives o h.databases t
  known_open h known = opened_has memory o (λ n. IsOpenIn host.drives n h.databases t) is known.is_open

  -- it isn't about to be deleted
  pub known_lives : (h : History) → IsKnown host memory h t → (log_of h.databases (key_of host)).fate ≡ Lives
  known_lives h known = subst (λ (k : Key). (log_of h.databases k).fate ≡ Lives) (knows_its known.knows).0 (known_open h known).lives

  -- its table is the newest of the log of the host's key
  pub known_newest : (h : History) → IsKnown host memory h t → IsNewestWritten (log_of h.databases (key_of host)) o.mark o.table
  known_newest h known = subst (λ (k : Key). IsNewestWritten (log_of h.databases k) o.mark o.table) (knows_its known.knows).0 (known_open h known).newest

module _ (host : Host) (ask : Ask) (old next : Memory) (t : Tale) where
  -- what is in memory is the same but for how many creations were begun
  module _ (opened : next.opened ≡ old.opened) (up : next.up ≡ old.up) (unsteady : next.unsteady ≡ old.unsteady) (clean : next.clean ≡ old.clean) (begun : old.begun ≤ next.begun) where
    still_on : (drive : ℕ) → is_steady old drive ≡ is_steady next drive
    still_on drive = sym (same_steady old next up unsteady drive)

    still_knows : Knows host old t → Knows host next t
    still_knows knows = record {
      opened = subst (λ (o : Option Opened). IfSome o (λ n. (n.key ≡ key_of host) × IsOpenedAt host.drives n t)) (sym opened) knows.opened;
      steady = λ drive block on. knows.steady drive block (still_on drive ∙ on);
    }

    -- a refusal before anything was done
    pub refused_still : (refusal : Refusal) → CarriedTo host ask old (Said (outcome.Refused refusal)) next t t
    refused_still refusal = record {
      done = [];
      acks = refl;
      free = λ has. absurd (not_among (Created (key_of host)) has);
      goes = λ h known. inr (goes_none host (issued_by ask (Said (outcome.Refused refusal))) (λ es g. IsKnownAfter host [] (Said (outcome.Refused refusal)) next g t) t h known.stands (record {
        stands = known.stands;
        its = own_still host old.begun h known.its next.begun h begun refl;
        is_open = subst (λ (o : Option Opened). IfSome o (λ n. IsOpenIn host.drives n h.databases t)) (sym opened) known.is_open;
        free = λ none calm. known.free (sym opened ∙ none) (sym clean ∙ calm);
        up = λ drive. known.up drive ∙ still_on drive;
        woken = subst (λ (o : Option Opened). IfSome o (λ n. AreWoken host.drives n.table (is_steady next) h (key_of host))) (sym opened)
            (some_more old.opened (λ n. AreWoken host.drives n.table (is_steady old) h (key_of host)) (λ n. AreWoken host.drives n.table (is_steady next) h (key_of host))
            (λ n are volume v map upon. are volume v map (λ b drive block lt has. still_on drive ∙ upon b drive block lt has)) known.woken);
        knows = still_knows known.knows;
      }));
      knows = still_knows;
    }

  -- a number would reach its limit
  pub spent_still : CarriedTo host ask old (Over ended.Spent) next t t
  spent_still = record { done = []; acks = refl; free = λ has. absurd (not_among (Created (key_of host)) has); goes = λ h known. inr (goes_none host [] (λ es g. IsKnownAfter host [] (Over ended.Spent) next g t) t h known.stands tt); knows = λ knows. tt }

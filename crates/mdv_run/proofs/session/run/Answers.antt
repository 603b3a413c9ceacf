use Rattle.mdv_run.proofs.Counting.{none_took}
use Rattle.std.proofs.Common.{◌+◌, ◌≡◌, ◌≢◌, refl, ap, subst, inl, inr, Err}
use Rattle.mdv_run.specs.Below.{counts, asked_of, HasStatusCause, Host, NoMemory, RunMoment, RunStatus, Usage, host_of, site_area}
use Rattle.mdv_run.specs.Calls.{boot_calls}
use Rattle.mdv_run.specs.Promise.{HasRun, between, by}
use Rattle.mdv_port.specs.declared.source.Source.{Ghosts as Source}
use Rattle.mdv_shelf.specs.declared.shelf.Shelf.{Ghosts as Shelf}
use Rattle.mdv_run.proofs.Fronting.{IsBooting, fronts_quiet}
use Rattle.mdv_shelf.proofs.Frame.{kept_outside_same}
use Rattle.mdv_shelf.proofs.Moments.{moments_none}
use Rattle.mdv_engine_law.proofs.Kept.{kept_itself}
use Rattle.mdv_engine_law.proofs.Staying.{nothing_stays}
use Rattle.mdv_shelf.proofs.Noted.{moments_of_tales}
use Rattle.mdv_run_law.proofs.Booting.{nothing_run}
use Rattle.mdv_run.proofs.Used.{one_host, ready_host}
use Rattle.mdv_run.proofs.session.run.Goals as goal

-- a run of a host is no faulty use
never_usage : {B I : Type 0} (shelf : Shelf B) (source : Source I) (host : Host) (old : B) (from : I) (new : B) (to : I) (status : RunStatus) → HasRun shelf source host old from new to status → status ≢ NoMemory → status ≡ Usage → ⊥
never_usage shelf source host old from new to status run known is = elim run.causes [
  | inl wanted ↦ known wanted
  | inr cause ↦ subst (HasStatusCause host (by shelf source old from) (by shelf source new to)) is cause
]

pub run_host-requires : goal.run_host-requires
run_host-requires g c =
    ready_host _ _ _ c.args.fresh c.in-Ok.start.drives c.in-Ok.start.site c.in-Ok.ensures.value c.ranges.fresh.fits

pub returns-in-Ok-clause-usage : goal.returns-in-Ok-clause-usage
returns-in-Ok-clause-usage g c =
    let start = c.in-Ok.ensures.value in
    record {
      exactly = λ known. (
        λ is. absurd (never_usage g.B.Shelf g.I.Source _ _ _ _ _ _ c.run_host.ensures.has_run known is),
        λ none. absurd (none start.table start.name start.used),
      );
      untouched = λ none. absurd (none start.table start.name start.used);
    }

pub returns-in-Ok-clause-used : goal.returns-in-Ok-clause-used
returns-in-Ok-clause-used g c = λ drives name used.
    subst (λ (h : Host). HasRun g.B.Shelf g.I.Source h c.args.bench.now c.args.script.now c.run_host.new.bench c.run_host.new.script c.run_host.result)
    (one_host _ _ _ c.args.fresh c.in-Ok.start.drives c.in-Ok.start.site c.in-Ok.ensures.value drives name used)
    c.run_host.ensures.has_run

pub returns-in-Err-Usage-clause-usage : goal.returns-in-Err-Usage-clause-usage
returns-in-Err-Usage-clause-usage g c = record {
  exactly = λ known. (λ is. c.in-Err-Usage.ensures.none (ap Err c.in-Err-Usage.field-0-is), λ none. refl);
  untouched = λ none. (refl, refl);
}

pub returns-in-Err-Usage-clause-used : goal.returns-in-Err-Usage-clause-used
returns-in-Err-Usage-clause-used g c = λ drives name used. absurd (c.in-Err-Usage.ensures.none (ap Err c.in-Err-Usage.field-0-is) drives name used)

pub returns-in-Err-Memory-clause-used : goal.returns-in-Err-Memory-clause-used
returns-in-Err-Memory-clause-used g c = λ drives name used.
    let host : Host = host_of drives name c.args.fresh in record {
      runs = λ t is input left. inl (record { wanting = refl; untouched = (refl, refl) });
      stands = λ input left. moments_of_tales g.B.Shelf g.met.B.Shelf.telling _ _ (RunMoment host (asked_of input)) (kept_itself g.B.Shelf c.args.bench.now).goes
          (moments_none (RunMoment host (asked_of input)) _ _ refl (λ t. nothing_run host (asked_of input) t));
      tells = λ input left. fronts_quiet g.B.Shelf g.met.B.Shelf.telling host (counts (g.B.Shelf.faults c.args.bench.now) (g.I.Source.faults c.args.script.now)) (asked_of input) (between g.B.Shelf c.args.bench.now c.args.bench.now) _ _ (kept_itself g.B.Shelf c.args.bench.now).goes (moments_none (IsBooting host) _ _ refl (λ t. (refl, kept_outside_same (site_area host.site) t)));
      home = nothing_stays host _ _ refl;
      counted = λ input left n calls. none_took _ (boot_calls host + n);
      causes = inl refl;
    }

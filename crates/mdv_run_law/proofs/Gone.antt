-- A database that was deleted stays so, till another of its key is created.
use Rattle.std.proofs.Common.{◌≡◌, List, [], ◌∷◌, ◌++◌, Contains, refl, sym, ◌∙◌, ap, subst, append_assoc}
use Rattle.std.proofs.lemmas.List.{append-nil}
use Rattle.mdv_run_law.specs.Below.{Created, Event, Geometry, History, IsCourse, Key, Log, MayHappen, history_after, history_after_all, issued_by, log_of, new_history}
use Rattle.mdv_store_law.specs.Log as log
use Rattle.mdv_store_law.proofs.Machine.{after_more, all_more}
use Rattle.mdv_volumes.specs.Happening.{IsLater, begins}
use Rattle.mdv_volumes.specs.History.{Deletes}
use Rattle.mdv_volumes.specs.HistoryLaws.{AreLater, log_events_of}
use Rattle.mdv_volumes.proofs.Keys.{databases_live}
use Rattle.mdv_volumes.proofs.Lists.{course_rest}
use Rattle.mdv_run_law.specs.Lives.{IsGone}
use Rattle.mdv_run_law.proofs.Struck.{later_all}

module _ (g : Geometry) where
  over_later : (l : Log) (e : log.Event) → log.MayHappen g l e → IsLater e → l.fate ≡ log.Over → (log.log_after l e).fate ≡ log.Over
  over_later l (log.Issued identity) may later over = absurd later
  over_later l (log.Writing mark asked before table) may later over = absurd (may.0.1 over)
  over_later l log.Written may later over = over
  over_later l (log.Told which before) may later over = over
  over_later l (log.Placing places) may later over = over
  over_later l log.Clearing may later over = absurd (may.there over)
  over_later l log.Gone may later over = refl

  over_all : (l : Log) (es : List log.Event) → log.IsCourse g l es → AreLater es → l.fate ≡ log.Over → (log.log_after_all l es).fate ≡ log.Over
  over_all l [] course later over = over
  over_all l (e ∷ es) course later over = over_all (log.log_after l e) es course.1 later.1 (over_later l e course.0 later.0 over)

module _ (key : Key) where
  -- so it is behind events that begin nothing
  pub gone_more : (es more : List Event) → issued_by more ≡ [] → IsGone key es → IsGone key (es ++ more)
  gone_more es more none gone = record {
    before = gone.before;
    later = gone.later ++ more;
    place = gone.place;
    parts = ap (λ (l : List Event). l ++ more) gone.parts ∙ append_assoc gone.before (Deletes gone.place key ∷ gone.later) more;
    none = λ has. gone.none (subst (λ (l : List _). Contains l (Created key)) (all_more begins gone.later more ∙ ap (λ (l : List _). issued_by gone.later ++ l) none ∙ append-nil (issued_by gone.later)) has);
  }

  pub gone_over : (g : Geometry) (es : List Event) → IsCourse g new_history es → IsGone key es → (log_of (history_after_all new_history es).databases key).fate ≡ log.Over
  gone_over g es course gone =
      let behind : List Event = Deletes gone.place key ∷ gone.later in
      let then = history_after_all new_history gone.before in
      let rest = course_rest history_after (MayHappen g) new_history gone.before behind (subst (IsCourse g new_history) gone.parts course) in
      let next = history_after then (Deletes gone.place key) in
      let over = over_all g (log_of next.databases key) (log_events_of key gone.later) (databases_live.may key g next gone.later rest.1) (later_all key gone.later gone.none) rest.0.1 in
      subst (λ (h : History). (log_of h.databases key).fate ≡ log.Over) (sym (ap (history_after_all new_history) gone.parts ∙ after_more history_after new_history gone.before behind))
      (subst (λ (l : Log). l.fate ≡ log.Over) (sym (databases_live.is key g next gone.later rest.1)) over)

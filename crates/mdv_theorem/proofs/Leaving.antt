-- What a line leaves in a block of a volume, behind a crash too: what was left there before, or what the line may have written.
use Rattle.std.proofs.Common.{◌≡◌, ◌⊎◌, ⊎_elim, inl, inr, ℕ, ◌+◌, false, List, [], ◌∷◌, ◌++◌, length, slice_index_or, Contains, refl, sym, ◌∙◌, subst, arith}
use Rattle.std.proofs.lemmas.List.Elements.{Contains-append_left, Contains-append_right}
use Rattle.mdv_base.specs.declared.name.VolId.{VolId}
use Rattle.mdv_base.specs.declared.refusal.Refusal.{Refusal}
use Rattle.mdv_base.specs.declared.refusal.Refusal.TheVariants.{IoFault}
use Rattle.mdv_engine_law.specs.Replies.{IsPlainAnswer, ok_line, refusal_line, text_of}
use Rattle.mdv_engine_law.specs.declared.answer.Answer.{Answer}
use Rattle.mdv_engine_law.specs.declared.answer.Answer.TheVariants.{Said, Over}
use Rattle.mdv_engine_law.specs.declared.answer.Outcome.TheVariants as outcome
use Rattle.mdv_engine_law.specs.declared.host.Host.{Host}
use Rattle.mdv_name.specs.declared.geometry.Geometry.{Geometry}
use Rattle.mdv_run_law.specs.Lives.{host_of}
use Rattle.mdv_run_law.specs.Run.{IsMereRefusal, IsSaid, TextWrites}
use Rattle.mdv_run_law.proofs.Placing.{off_or_there}
use Rattle.mdv_shelf.specs.Area.{IsKept, KeptOutside, nowhere}
use Rattle.mdv_shelf.specs.Tale.{MayLeave, Tale}
use Rattle.mdv_config.specs.Slices.{IsSound}
use Rattle.mdv_plan.specs.declared.table.Table.{Table}
use Rattle.mdv_volumes.proofs.Lists.{contains_first}
use Rattle.mdv_volumes.proofs.Made.{HasFront}
use Rattle.mdv_words.specs.Line.{blocks_of}
use Rattle.mdv_words.specs.declared.command.Command.TheVariants.{Write}
use Rattle.mdv_theorem.specs.Exchanges.{Asks, Exchange, IsTold, MayBeWritten, MayHaveBegun}
use Rattle.mdv_theorem.proofs.Agreeing.{own_sound}
use Rattle.mdv_theorem.proofs.Place.{Spot, at_place, block_longer, same_block, spot_beside}
use Rattle.mdv_theorem.proofs.Steps.{Between, told_once}
use Rattle.mdv_theorem.proofs.Sure.{sure_table}
use Rattle.mdv_theorem.proofs.Tables.{Keeps, WroteThere, open_keeps, text_kept}
use Rattle.mdv_theorem.proofs.Telling.{entries_are_none, is_fault, ok_is_none, one_number, quiet_is_none, values_are_none}
use Rattle.mdv_shown.specs.Site.{site_area}

-- a refusal for another cause than a failed call, or that one
quiet_or_fault : (r : Refusal) → IsMereRefusal (Said (outcome.Refused r)) ⊎ (r ≡ IoFault)
quiet_or_fault IoFault = inr refl
quiet_or_fault _ = inl tt

-- a line that was told so may have begun what it asks, or is refused for such a cause
pub begun_or_quiet : (one : Exchange) (answer : Answer) → IsPlainAnswer answer → IsSaid answer → IsTold one (text_of answer) → MayHaveBegun one ⊎ IsMereRefusal answer
begun_or_quiet one (Said outcome.Ok) plain said told = inl (λ refusal refused. absurd (ok_is_none refusal (told_once one ok_line (refusal_line refusal) told refused)))
begun_or_quiet one (Said (outcome.Values text)) (inl are) said told = inl (λ refusal refused. absurd (values_are_none are.at are.blocks refusal (sym are.is ∙ told_once one text (refusal_line refusal) told refused)))
begun_or_quiet one (Said (outcome.Values text)) (inr (inl are)) said told = inl (λ refusal refused. absurd (entries_are_none are.count refusal (sym are.is ∙ told_once one text (refusal_line refusal) told refused)))
begun_or_quiet one (Said (outcome.Values text)) (inr (inr are)) said told = inl (λ refusal refused. absurd (quiet_is_none are.lines refusal are.quiet (sym are.is ∙ told_once one text (refusal_line refusal) told refused)))
begun_or_quiet one (Said (outcome.Refused r)) plain said told = ⊎_elim (λ quiet. inr quiet) (λ fault. inl (λ refusal refused. (
    let same = told_once one (refusal_line IoFault) (refusal_line refusal) (subst (λ (q : Refusal). IsTold one (refusal_line q)) fault told) refused in
    is_fault refusal (sym (one_number IoFault refusal same))
    ))) (quiet_or_fault r)
begun_or_quiet one (Over end) plain said told = absurd said

module _ (volume : VolId) (number : ℕ) where
  -- one of these lines may have written this there
  abbrev pub Written : List Exchange → List ℕ → Type 0
  Written es x = (one : Exchange) × (new : List ℕ) × Contains es one × MayBeWritten volume number new one × (x ≡ new)

  -- a crash leaves in the block what it might have left before, or what one of these lines may have written
  abbrev pub Leaves : ℕ → ℕ → List Exchange → Tale → Tale → Type 0
  Leaves drive block es t u = (x : List ℕ) → MayLeave u drive block x → MayLeave t drive block x ⊎ Written es x

  module _ (drive block : ℕ) where
    pub leaves_more : (a b : List Exchange) (t u v : Tale) → Leaves drive block a t u → Leaves drive block b u v → Leaves drive block (a ++ b) t v
    leaves_more a b t u v first second x may = ⊎_elim
        (λ before. ⊎_elim (λ was. inl was) (λ (w : Written a x). inr (w.0, w.1, Contains-append_left a b w.0 w.2, w.3, w.4)) (first x before))
        (λ (w : Written b x). inr (w.0, w.1, Contains-append_right a b w.0 w.2, w.3, w.4)) (second x may)

    pub kept_leaves : (es : List Exchange) (t u : Tale) → IsKept t u drive block → Leaves drive block es t u
    kept_leaves es t u kept x may = inl (kept.left x may)

module _ (drives : Geometry) (name : List ℕ) where
  abbrev pub own : Host
  own = host_of drives name 0

  module _ (sound : IsSound drives) (of_table : Contains drives.hosts name) (final : Table) (volume : VolId) (number : ℕ) (spot : Spot own.drives final volume number) where
    abbrev drive : ℕ
    drive = spot.at.drive

    abbrev block : ℕ
    block = spot.at.block

    abbrev AreLeft : List Exchange → Tale → Tale → Type 0
    AreLeft es t u = Leaves volume number drive block es t u

    its_sound : IsSound own.drives
    its_sound = own_sound drives name 0 sound

    -- it is none of a replica's
    pub spot_out : site_area own.site drive block ≡ false
    spot_out = spot_beside own its_sound refl final volume number spot

    pub site_leaves : (es : List Exchange) (t u : Tale) → KeptOutside (site_area own.site) t u → AreLeft es t u
    site_leaves es t u kept = kept_leaves volume number drive block es t u (kept drive block spot_out)

    pub none_leaves : (es : List Exchange) (t u : Tale) → KeptOutside nowhere t u → AreLeft es t u
    none_leaves es t u kept = kept_leaves volume number drive block es t u (kept drive block refl)

    -- At a place between two lines, where each table that a boot may find has the volume, and so the open one.
    module _ (fresh : ℕ) (at : Between (host_of drives name fresh)) (keeps : Keeps (host_of drives name fresh) (HasFront own.drives volume spot.map) at) (one : Exchange) (t u : Tale) (begun : MayHaveBegun one) where
      abbrev its_host : Host
      its_host = host_of drives name fresh

      put_leaves : WroteThere its_host at.kept.memory one.text t u → AreLeft (one ∷ []) t u
      put_leaves wrote = elim (off_or_there wrote.map wrote.at (length (blocks_of wrote.what)) drive block) [
        | inl off ↦ kept_leaves volume number drive block (one ∷ []) t u (wrote.put.outside drive block off)
        | inr (k, below, has) ↦
            let there = wrote.there in
            let bound = there.within in
            let lies = open_keeps its_host (HasFront own.drives volume spot.map) at there.o keeps there.opened in
            let its = block_longer spot.map lies.0 number lies.2 spot.at in
            let plan = sure_table its_host at.kept there.o at.sure there.opened in
            let same = same_block own.drives its_sound there.o.table plan volume wrote.volume lies.0 wrote.map number (wrote.at + k) drive block lies.1 there.lies its.within (omega (arith, below, bound)) (at_place lies.0 number its) has in
            let new = slice_index_or (blocks_of wrote.what) k [] in
            let may : MayBeWritten volume number new one = record {
              writes = record { at = wrote.at; what = wrote.what; asks = subst (λ (v : VolId). Asks one (Write v wrote.at wrote.what)) same.0 wrote.spelled; place = k; within = below; numbered = sym same.1; value = refl };
              begun = begun;
            } in
            λ x left. ⊎_elim (λ before. inl before) (λ is. inr (one, new, contains_first one [], may, is)) ((wrote.put.inside k drive block below has).left x left)
      ]

      pub text_leaves : TextWrites its_host at.kept.memory one.text t u → AreLeft (one ∷ []) t u
      text_leaves writes = elim (text_kept its_host refl at.kept at.sure one.text t u drive block spot_out writes) [
        | inl kept ↦ kept_leaves volume number drive block (one ∷ []) t u kept
        | inr wrote ↦ put_leaves wrote
      ]

-- Drives of zeros have no replica, so that a life begins on them.
use Rattle.std.proofs.Common.{◌≡◌, ◌⊎◌, inl, inr, ℕ, ◌+◌, ◌∙◌, List, [], ap, sym, arith, get_or, replicate}
use Rattle.mdv_replica.proofs.Heads.{no_blank_master}
use Rattle.mdv_replica.proofs.Parts.{master_parts}
use Rattle.mdv_replica.specs.Forms.{block_of, master_text}
use Rattle.mdv_replica.specs.declared.forms.Master.{Master}
use Rattle.mdv_theorem.specs.Running.{LivesBegin, no_run}

-- neither such a block nor none is a master
no_master : (block : List ℕ) (m : Master) → (block ≡ replicate 512 0) ⊎ (block ≡ []) → block ≡ block_of (master_text m) → ⊥
no_master block m (inl zeros) is = no_blank_master m (sym zeros ∙ is)
no_master block m (inr none) is = absurd (let first : 0 ≡ 77 = ap (λ (l : List ℕ). get_or l 0 0) (sym none ∙ is ∙ master_parts m) in omega (arith, first))

pub lives_begin : LivesBegin
lives_begin drives made told sound zeros = record {
  fair = sound;
  told = told;
  new = λ name has key line k first head found. no_master _ first (zeros line.at.drive.0 (line.at.start + 16)) found.located.spelled;
  runs = no_run;
  clean = tt;
}

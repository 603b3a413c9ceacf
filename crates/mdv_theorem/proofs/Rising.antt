-- No count of failures falls along a run's lines.
use Rattle.std.proofs.Common.{ℕ, ◌+◌, List, length, arith}
use Rattle.mdv_engine_law.specs.Line.{Kept}
use Rattle.mdv_engine_law.specs.declared.answer.Answer.{Answer}
use Rattle.mdv_engine_law.specs.declared.host.Host.{Host}
use Rattle.mdv_port.specs.Script.{Script, at_end, line, spent, too_long}
use Rattle.mdv_run_law.specs.Run.{At, Counts, LinesTold, NextLine, RoseTo, Stretch, no_line, one_more}

-- no count fell
pub rose_itself : (a : Counts) → RoseTo a a
rose_itself a = record { drives = λ drive. omega arith; source = omega arith; replies = omega arith }

pub rose_to_more : (a b c : Counts) → RoseTo a b → RoseTo b c → RoseTo a c
rose_to_more a b c one other = record {
  drives = λ drive. (let x = one.drives drive in let y = other.drives drive in omega arith);
  source = let x = one.source in let y = other.source in omega arith;
  replies = let x = one.replies in let y = other.replies in omega arith;
}

module _ (host : Host) where
  pub next_rose : (now then : Counts) (kept next : Kept) (script rest : Script) (answer : Answer) → NextLine host now kept script answer then next rest → RoseTo now then
  next_rose now then kept next at_end rest answer is = absurd is
  next_rose now then kept next (spent lines bytes) rest answer is = absurd is
  next_rose now then kept next (too_long left) rest answer is = record { drives = is.1.drives; source = (let same = is.1.source in omega arith); replies = (let same = is.1.replies in omega arith) }
  next_rose now then kept next (line text left) rest answer is = record { drives = is.1.drives; source = (let same = is.1.source in omega arith); replies = (let same = is.1.replies in omega arith) }

  pub lines_rose : (w : Stretch) (n : ℕ) (now then : At) (told : List ℕ) → LinesTold host w n now told then → RoseTo now.counts then.counts
  lines_rose w n now then told (no_line bytes at) = rose_itself now.counts
  lines_rose w n now then told (one_more bytes at mid last piece rest some one shown lines) =
      rose_to_more now.counts mid.counts then.counts (next_rose now.counts mid.counts now.kept mid.kept now.script mid.script one.answer one.comes) (lines_rose w (n + length piece) mid then rest lines)

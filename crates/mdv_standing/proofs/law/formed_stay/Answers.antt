use Rattle.mdv_shown.specs.Laws.{Reads}
use Rattle.mdv_shown.proofs.Formatting.{own_first, own_later}
use Rattle.mdv_standing.proofs.Formed.{behind_own, own_beside, own_formatting, own_wiping}
use Rattle.mdv_standing.proofs.Within.{format_within, wipe_within}
use Rattle.mdv_standing.proofs.law.formed_stay.Goals as goal

pub returns : goal.returns
returns c = record {
  first = λ read site identity t m line blocks count number before f known leaves image is.
      (let from = leaves image is in own_first (Reads read) site identity line blocks count number before from.0 image (f from.0 from.1) (known from.0 from.1) from.2);
  later = λ read site identity t m line k number first f behind leaves image is.
      (let from = leaves image is in own_later (Reads read) site identity line k number first from.0 image behind.later (f from.0 from.1) (behind.has from.0 from.1) from.2 (behind.chain from.0 from.1));
  behind = λ read site identity t line k first head ok own. behind_own (Reads read) site identity line first head t k ok own;
  formatting = λ read site identity t m line j k number first master head lt own leaves image is.
      (let from = leaves image is in own_formatting (Reads read) site identity line first head j from.0 image (own from.0 from.1) k number master lt from.2);
  wiping = λ read site identity t m line j k first head lt own leaves image is.
      (let from = leaves image is in own_wiping (Reads read) site identity line first head j from.0 image (own from.0 from.1) k lt from.2);
  wiping_beside = λ read site identity t m line other j its many k first head apart within own leaves image is.
      (let from = leaves image is in own_beside (Reads read) site identity line first head j from.0 image (own from.0 from.1) other apart (wipe_within other k its many from.0 image within from.2));
  beside = λ read site identity t m line other j its many k number first master head apart least within own leaves image is.
      (let from = leaves image is in own_beside (Reads read) site identity line first head j from.0 image (own from.0 from.1) other apart (format_within other k its many from.0 image within least master number from.2));
}

use Rattle.dname.proofs.DigestLemmas.{digest_order}
use Rattle.dname.proofs.order.digest_keeps_the_order.Goals as goal

pub returns : goal.returns
returns c apex name other is under under' less = digest_order apex name other under under' (λ k d within. (is.each k d within).octets) less

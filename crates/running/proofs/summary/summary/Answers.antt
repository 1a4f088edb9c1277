use Rattle.running.proofs.CountLemmas.{summary_put}
use Rattle.running.proofs.summary.summary.Goals as goal

pub returns : goal.returns
returns c = λ outputs valid is.
    summary_put c.args.names c.args.queries outputs _ _ _ _ _ _ _ _ _ _ _ _ _
    (c.count.ensures outputs valid is) (c.count-2.ensures outputs valid is) (c.count-3.ensures outputs valid is) (c.count-4.ensures outputs valid is) (c.count-5.ensures outputs valid is)
    c.new-text.ensures.bytes c.in_ok-put_line.ensures c.in_ok-put_line-2.ensures c.in_ok-put_line-3.ensures c.in_ok-put_line-4.ensures c.in_ok-put_line-5.ensures c.in_ok-put_line-6.ensures c.in_ok-put_line-7.ensures

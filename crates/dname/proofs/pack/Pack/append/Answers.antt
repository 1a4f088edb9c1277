use Rattle.std.proofs.Common.{◌∙◌, ap, ◌++◌, ◌∷◌, []}
use Rattle.dname.proofs.PackLemmas.{length-head, pushed}
use Rattle.dname.proofs.pack.Pack.append.Goals as goal

pub append-requires-clause-head : goal.append-requires-clause-head
append-requires-clause-head c = rw c.requires.head (length-head _).1

pub invariant_of-self-2 : goal.invariant_of-self-2
invariant_of-self-2 c =
    (pushed _ _ c.args.piece.now c.self.invariant c.requires.piece
    (c.in_ok-append.ensures.ok ∙ ap (λ head. c.self.inside.octets ++ (head ++ c.args.piece.now)) c.requires.head)).packed

pub returns-clause-ok : goal.returns-clause-ok
returns-clause-ok c =
    (pushed _ _ c.args.piece.now c.self.invariant c.requires.piece
    (c.in_ok-append.ensures.ok ∙ ap (λ head. c.self.inside.octets ++ (head ++ c.args.piece.now)) c.requires.head)).pieces_are
    ∙ ap (λ pieces. pieces ++ c.args.piece.now ∷ []) c.self.view_is

use Rattle.std.proofs.Common.{length, map, ap, subst, arith}
use Rattle.std.proofs.lemmas.List.{length-map}
use Rattle.std.proofs.lemmas.Result.{IfOk-weaker}
use Rattle.replay_meaning.specs.Frame.{input_of}
use Rattle.replay_meaning.specs.OutFrame.{output_of}
use Rattle.run_audit.specs.Findings.{IsFoundIn}
use Rattle.run_audit.specs.Pairs.{input_in, inputs_in}
use Rattle.run_audit.proofs.auditing.find.Goals as goal

pub find_in-requires : goal.find_in-requires
find_in-requires c =
    let facts = rw c.in-Some.is at c.in_ok-pairs.ensures in
    record {
      matched = facts.2;
      places = facts.3;
      few = omega (arith, ap length facts.0, length-map c.in-Some.pairs.items input_in, length-map c.args.frames.now input_of);
    }

pub returns : goal.returns
returns c =
    let facts = rw c.in-Some.is at c.in_ok-pairs.ensures in
    IfOk-weaker c.find_in.result _ _
    (λ finding found.
    subst (λ inputs. IsFoundIn c.args.zone.now inputs (map output_of c.args.outputs.now) finding) facts.0
    (subst (λ outputs. IsFoundIn c.args.zone.now (inputs_in c.in-Some.pairs.items) outputs finding) facts.1 found))
    c.find_in.ensures

use Rattle.std.proofs.Common.{length, map, ap, subst, arith}
use Rattle.std.proofs.lemmas.List.{length-map}
use Rattle.replay_meaning.specs.Frame.{input_of}
use Rattle.replay_meaning.specs.OutFrame.{output_of}
use Rattle.run_audit.specs.Findings.{IsFound, IsFoundIn}
use Rattle.run_audit.specs.Spelled.{AreInputs, AreOutputs}
use Rattle.run_audit.proofs.FindLemmas.{few_inputs}
use Rattle.run_audit.proofs.auditing.audit.Goals as goal

pub find-requires : goal.find-requires
find-requires c =
    let read : AreInputs c.args.input.now (map input_of c.in-Some.frames.items) = rw c.in-Some.is at c.in_ok-frames.ensures in
    omega (arith, few_inputs _ _ read, length-map c.in-Some.frames.items input_of, ap length c.as_slice.ensures.value)

pub returns : goal.returns
returns c =
    let read : AreInputs c.args.input.now (map input_of c.in-Some.frames.items) = rw c.in-Some.is at c.in_ok-frames.ensures in
    let written : AreOutputs c.args.output.now (map output_of c.in-Some-2.outputs.items) = rw c.in-Some-2.is at c.in_ok-outputs.ensures in
    let in' : IsFoundIn c.args.zone.now (map input_of c.in-Some.frames.items) (map output_of c.in-Some-2.outputs.items) c.in_ok-finding.finding =
    subst (λ frames. IsFoundIn c.args.zone.now (map input_of frames) (map output_of c.in-Some-2.outputs.items) c.in_ok-finding.finding) c.as_slice.ensures.value
    (subst (λ outputs. IsFoundIn c.args.zone.now (map input_of c.as_slice.result.now) (map output_of outputs) c.in_ok-finding.finding) c.as_slice-2.ensures.value c.in_ok-finding.ensures) in
    let found : IsFound c.args.zone.now c.args.input.now c.args.output.now c.in_ok-finding.finding =
    record { inputs = map input_of c.in-Some.frames.items; read = read; outputs = map output_of c.in-Some-2.outputs.items; written = written; found = in' } in
    record {
      found = found;
      upheld = c.yes_is_upheld.ensures c.args.zone.now c.args.input.now c.args.output.now c.in_ok-finding.finding c.apex-apex.ensures.zone found;
      bad_input = λ same spelled. absurd cc;
      bad_output = λ same. absurd cc;
    }

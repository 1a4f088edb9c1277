use Rattle.std.proofs.Common.{Err, arith, inl, ap, refl, ◌∙◌}
use Rattle.running.specs.Audit.{HasFound, IsUnaudited, audited, unaudited}
use Rattle.running.proofs.AuditLemmas.{upheld_of, whole_of}
use Rattle.running.proofs.RunLemmas.{told_is}
use Rattle.running.proofs.audit.run_the_audit.Goals as goal

pub returns-in-Err-Refused-clause-unaudited : goal.returns-in-Err-Refused-clause-unaudited
returns-in-Err-Refused-clause-unaudited g c = λ refused.
    whole_of IsUnaudited (g.S.Source.left c.args.source.now) (g.S.Source.left c.read_whole.new.source) c.in-Ok.octets.items c.deref.result.now
    c.deref.ensures.value c.in-Ok.ensures.left (c.in-Ok.ensures.end (omega arith)) (c.in-Err-Refused.ensures.refused (ap Err c.in-Err-Refused.field-0-is))

pub returns-in-Err-Refused-clause-complete : goal.returns-in-Err-Refused-clause-complete
returns-in-Err-Refused-clause-complete g c = λ octets is source sink.
    inl (unaudited (told_is IsUnaudited (g.S.Source.left c.args.source.now) octets
    (whole_of IsUnaudited (g.S.Source.left c.args.source.now) (g.S.Source.left c.read_whole.new.source) c.in-Ok.octets.items c.deref.result.now
    c.deref.ensures.value c.in-Ok.ensures.left (c.in-Ok.ensures.end (omega arith)) (c.in-Err-Refused.ensures.refused (ap Err c.in-Err-Refused.field-0-is))) is) refl)

pub returns-in-Ok-write_whole-clause-upheld : goal.returns-in-Ok-write_whole-clause-upheld
returns-in-Ok-write_whole-clause-upheld g c = λ good.
    upheld_of c.in-Ok.octets.items c.deref.result.now c.as_bytes.result.now c.in-Ok-finding_of.finding
    (g.S.Source.left c.args.source.now) (g.S.Source.left c.read_whole.new.source) (g.K.Sink.written c.args.sink.now) (g.K.Sink.written c.write_whole.new.sink)
    c.deref.ensures.value c.in-Ok.ensures.left (c.in-Ok.ensures.end (omega arith)) c.in-Ok-finding_of.ensures.upheld
    (c.as_bytes.ensures.value ∙ c.in-Ok-finding_line.ensures) c.in-Ok-write_whole.ensures.written

pub returns-in-Ok-write_whole-clause-complete : goal.returns-in-Ok-write_whole-clause-complete
returns-in-Ok-write_whole-clause-complete g c = λ octets is source sink.
    inl (audited c.in-Ok-finding_of.finding (told_is (λ o. HasFound o c.in-Ok-finding_of.finding) (g.S.Source.left c.args.source.now) octets
    (whole_of (λ o. HasFound o c.in-Ok-finding_of.finding) (g.S.Source.left c.args.source.now) (g.S.Source.left c.read_whole.new.source) c.in-Ok.octets.items c.deref.result.now
    c.deref.ensures.value c.in-Ok.ensures.left (c.in-Ok.ensures.end (omega arith)) c.in-Ok-finding_of.ensures.found) is) refl)

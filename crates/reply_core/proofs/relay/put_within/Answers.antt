use Rattle.std.proofs.Common.{◌≡◌, not, false, length, sym, ◌∙◌, ap}
use Rattle.std.specs.Prelude.{◌&&◌, nat_le}
use Rattle.dnswire.specs.Header.{is_set}
use Rattle.dnswire.specs.declared.flags.TheConstants.{TC}
use Rattle.reply_core.specs.Draft.{put, blank}
use Rattle.reply_core.specs.Relay.{whole_relay}
use Rattle.reply_core.proofs.RelayLemmas.{is_within, has_whole}
use Rattle.reply_core.proofs.relay.put_within.Goals as goal

pub returns-clause-exact : goal.returns-clause-exact
returns-clause-exact g c =
    let limit = c.args.limit in
    let whole = whole_relay c.args.question.now c.args.message.now in
    let put_all : c.put_whole.new.draft ≡ put (blank limit) whole = c.put_whole.ensures ∙ ap (λ s. put s whole) c.restart.ensures in
    let came_whole : is_set TC c.args.message.now.flags ≡ false = sym c.has_tc.ensures ∙ c.if-has_tc.false in
    ap not c.is_over.ensures ∙ is_within limit whole c.put_whole.new.draft put_all
    ∙ ap (λ cut. not cut && nat_le (length whole) limit) (sym came_whole)

pub returns-clause-value : goal.returns-clause-value
returns-clause-value g c =
    let limit = c.args.limit in
    let whole = whole_relay c.args.question.now c.args.message.now in
    let put_all : c.put_whole.new.draft ≡ put (blank limit) whole = c.put_whole.ensures ∙ ap (λ s. put s whole) c.restart.ensures in
    λ some. has_whole limit whole c.put_whole.new.draft put_all (sym (ap not c.is_over.ensures) ∙ some)

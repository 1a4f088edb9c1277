use Rattle.std.proofs.Common.{◌∙◌, ap}
use Rattle.reply_core.specs.Draft.{octets_of, put}
use Rattle.reply_core.proofs.DraftLemmas.{cut-has}
use Rattle.reply_core.proofs.reply_buffer.Reply.replace_from.Goals as goal

pub returns : goal.returns
returns g c =
    let draft = c.self.inside.draft in
    let octets = c.args.octets.now in
    rw (← c.self.view_is)
    (ap (λ s. octets_of s.written) (c.put.ensures ∙ ap (λ s. put s octets) c.cut.ensures)
    ∙ cut-has c.args.at _ draft octets c.requires.fits)

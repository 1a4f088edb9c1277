use Rattle.std.proofs.Common.{rules, ◌≡◌, ◌++◌, arith, sym}
use Rattle.reply_core.proofs.DraftLemmas.{put-fitting, put-too_long}
use Rattle.reply_core.proofs.draft.Draft.put.Goals as goal

pub returns-then-len-octets : goal.returns-then-len-octets
returns-then-len-octets g c =
    rw (← c.self.view_is) (sym (put-too_long c.self.inside.limit c.self.inside.over c.self.inside.octets.items c.args.octets.now c.self.invariant.1 (omega arith)))

pub returns : goal.returns
returns g c =
    let longer : c.try_extend_from_slice.new.self.items ≡ c.self.inside.octets.items ++ c.args.octets.now = search rules in
    rw (← c.self.view_is, longer) (sym (put-fitting c.self.inside.limit c.self.inside.over c.self.inside.octets.items c.args.octets.now (omega arith)))

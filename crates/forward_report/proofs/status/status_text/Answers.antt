use Rattle.std.proofs.Common.{[]}
use Rattle.std.specs.List.{flat_map}
use Rattle.forward_report.specs.Status.{cache_text, family_text, faults_text, status_text_of}
use Rattle.forward_report.specs.declared.family.Family.TheVariants as families
use Rattle.forward_report.specs.declared.family.TheConstants.Family as family
use Rattle.forward_report.proofs.PutLemmas.{put_all, put_more, three_put}
use Rattle.forward_report.proofs.status.status_text.Goals as goal

pub loop-family-preserved : goal.loop-family-preserved
loop-family-preserved c = put_more (family_text c.args.workers.now) family.ALL _ families.Answered [] _ _ c.loop-family-test.true c.loop-family.invariant c.in_ok-put_family.ensures

pub returns : goal.returns
unfolding status_text_of
returns c =
    three_put (flat_map (family_text c.args.workers.now) family.ALL) (faults_text c.args.workers.now) (cache_text c.args.cache) [] _ _ _
    (put_all (family_text c.args.workers.now) family.ALL _ [] _ c.loop-family-test.false c.loop-family.invariant)
    c.in_ok-put_faults.ensures c.in_ok-put_cache.ensures

use Rattle.std.proofs.Common.{◌≡◌, arith}
use Rattle.run_audit.proofs.fault.is_part_true.Goals as goal

pub returns-in-0-clause-is : goal.returns-in-0-clause-is
returns-in-0-clause-is c = rw c.in-0.is c.is_set_true.ensures

pub returns-in-1-clause-is : goal.returns-in-1-clause-is
returns-in-1-clause-is c = rw c.in-1.is c.is_set_true-in-1.ensures

pub returns-in-2-clause-is : goal.returns-in-2-clause-is
returns-in-2-clause-is c = rw c.in-2.is c.is_denial_true.ensures.is

pub returns-in-3-clause-is : goal.returns-in-3-clause-is
returns-in-3-clause-is c = rw c.in-3.is c.is_denial_true-in-3.ensures.is

pub returns-in_default-clause-is : goal.returns-in_default-clause-is
returns-in_default-clause-is c =
    let last : c.args.part ≡ 4 = omega arith in
    rw last c.is_denial_true-in_default.ensures.is

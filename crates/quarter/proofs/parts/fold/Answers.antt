-- `quarter::parts::fold` meets its contract: each arm is the case of `folded` that its test picks. Assumes nothing.
use borrow.Author.Tests.{le-leb, lt-leb}
use native.Mathlib.Omega.{arith}
use borrow.Author.Rules.{rules}
use Rattle.quarter.proofs.parts.fold.Goals as goal

pub returns-then-h-le1024 : goal.returns-then-h-le1024
returns-then-h-le1024 c = (simp (le-leb _ _ c.if-h-le1024.true), search rules)

pub returns-else-h-le1024 : goal.returns-else-h-le1024
returns-else-h-le1024 c = (simp (lt-leb _ _ c.if-h-le1024.false), omega arith)

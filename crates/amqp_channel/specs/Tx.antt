-- The methods of the class tx, and the items of their fields.
use Rattle.std.specs.Prelude.{[]}
use Rattle.amqp_types.specs.Methods.{Method, method}
use Rattle.amqp_channel.specs.declared.methods.tx.Select.{Select}
use Rattle.amqp_channel.specs.declared.methods.tx.SelectOk.{SelectOk}
use Rattle.amqp_channel.specs.declared.methods.tx.Commit.{Commit}
use Rattle.amqp_channel.specs.declared.methods.tx.CommitOk.{CommitOk}
use Rattle.amqp_channel.specs.declared.methods.tx.Rollback.{Rollback}
use Rattle.amqp_channel.specs.declared.methods.tx.RollbackOk.{RollbackOk}
use Rattle.amqp_channel.specs.declared.methods.tx.AMQPMethod.{AMQPMethod}
use Rattle.amqp_channel.specs.declared.methods.tx.AMQPMethod.TheVariants as variant

-- tx.select (class 90, method 10): no fields
abbrev pub select_method : Select → Method
select_method m = method 90 10 ([])

-- tx.select-ok (class 90, method 11): no fields
abbrev pub select_ok_method : SelectOk → Method
select_ok_method m = method 90 11 ([])

-- tx.commit (class 90, method 20): no fields
abbrev pub commit_method : Commit → Method
commit_method m = method 90 20 ([])

-- tx.commit-ok (class 90, method 21): no fields
abbrev pub commit_ok_method : CommitOk → Method
commit_ok_method m = method 90 21 ([])

-- tx.rollback (class 90, method 30): no fields
abbrev pub rollback_method : Rollback → Method
rollback_method m = method 90 30 ([])

-- tx.rollback-ok (class 90, method 31): no fields
abbrev pub rollback_ok_method : RollbackOk → Method
rollback_ok_method m = method 90 31 ([])

-- the row of class 90 that each variant is, by its method id: Select 10, SelectOk 11, Commit 20,
-- CommitOk 21, Rollback 30, RollbackOk 31
abbrev pub method_of : AMQPMethod → Method
method_of (variant.Select m) = select_method m
method_of (variant.SelectOk m) = select_ok_method m
method_of (variant.Commit m) = commit_method m
method_of (variant.CommitOk m) = commit_ok_method m
method_of (variant.Rollback m) = rollback_method m
method_of (variant.RollbackOk m) = rollback_ok_method m

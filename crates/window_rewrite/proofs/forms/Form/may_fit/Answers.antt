use Rattle.std.proofs.Common.{eq-eqb, eqb-true}
use Rattle.window_rewrite.proofs.Formed.{has_shared, shares_all}
use Rattle.window_rewrite.proofs.forms.Form.may_fit.Goals as goal

pub returns : goal.returns
returns c = (
  λ h x. has_shared c.args.self.now.mask.items.bits c.args.mask.items.bits x (eqb-true _ _ h),
  λ h. eq-eqb _ _ (shares_all c.args.self.now.mask.items.bits c.args.mask.items.bits h),
)

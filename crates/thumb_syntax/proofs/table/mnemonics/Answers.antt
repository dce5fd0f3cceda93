use Rattle.std.proofs.Common.{rules, arith, refl}
use Rattle.thumb_syntax.proofs.Named.{forms_at, all_at}
use Rattle.thumb_syntax.proofs.table.mnemonics.Goals as goal

pub returns-then-place-lt3-clause-forms : goal.returns-then-place-lt3-clause-forms
returns-then-place-lt3-clause-forms c = forms_at c.a_to_b.result.now _ c.a_to_b.ensures.forms

pub returns-then-place-lt3-clause-all : goal.returns-then-place-lt3-clause-all
returns-then-place-lt3-clause-all c = all_at c.a_to_b.result.now 0 3 c.args.place _ (search rules) (search rules) (omega arith) c.a_to_b.ensures.all

pub returns-then-place-lt13-clause-forms : goal.returns-then-place-lt13-clause-forms
returns-then-place-lt13-clause-forms c = forms_at c.c_to_l.result.now _ c.c_to_l.ensures.forms

pub returns-then-place-lt13-clause-all : goal.returns-then-place-lt13-clause-all
returns-then-place-lt13-clause-all c = all_at c.c_to_l.result.now 3 13 c.args.place _ (search rules) (search rules) refl c.c_to_l.ensures.all

pub returns-then-place-lt19-clause-forms : goal.returns-then-place-lt19-clause-forms
returns-then-place-lt19-clause-forms c = forms_at c.m_to_r.result.now _ c.m_to_r.ensures.forms

pub returns-then-place-lt19-clause-all : goal.returns-then-place-lt19-clause-all
returns-then-place-lt19-clause-all c = all_at c.m_to_r.result.now 13 19 c.args.place _ (search rules) (search rules) refl c.m_to_r.ensures.all

pub returns-else-place-lt19-clause-forms : goal.returns-else-place-lt19-clause-forms
returns-else-place-lt19-clause-forms c = forms_at c.s_to_z.result.now _ c.s_to_z.ensures.forms

pub returns-else-place-lt19-clause-all : goal.returns-else-place-lt19-clause-all
returns-else-place-lt19-clause-all c = all_at c.s_to_z.result.now 19 32 c.args.place _ (search rules) (search rules) refl c.s_to_z.ensures.all

use Rattle.gathered_out.proofs.Puts.{put_none, puts_all}
use Rattle.capture_flat.proofs.spell.spell_operation.Goals as goal

pub returns-in-Nothing : goal.returns-in-Nothing
returns-in-Nothing g c = rw c.in-Nothing.is (puts_all _ _ _ _ (put_none _ _))

pub returns-in-Put : goal.returns-in-Put
returns-in-Put g c = rw c.in-Put.is (puts_all _ _ _ _ (put_none _ _))

pub returns-in-Clear : goal.returns-in-Clear
returns-in-Clear g c = rw c.in-Clear.is (puts_all _ _ _ _ (put_none _ _))

pub returns-in-Begin : goal.returns-in-Begin
returns-in-Begin g c = rw c.in-Begin.is (puts_all _ _ _ _ (put_none _ _))

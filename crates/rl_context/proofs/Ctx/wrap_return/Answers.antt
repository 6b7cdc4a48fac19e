use Rattle.std.proofs.Common.{refl}
use Rattle.rl_context.proofs.TempName.{temp_name}
use Rattle.rl_context.proofs.WrapLaws.{wrap_return_does}
use Rattle.rl_context.proofs.Ctx.wrap_return.Goals as goal

pub returns : goal.returns
returns c q h = wrap_return_does _ _ _ (temp_name _ _ _ _ _ _ _ refl c.put_text-start.ensures.value c.put_text-start.ensures.out_after c.put_number-end.ensures.value c.put_number-end.ensures.out_after c.part-temp.ensures) (c.take_temp-n.ensures _ _ _) (c.wrap_as.ensures q h)

-- The two sides of a server.
use Rattle.tq_shape.specs.{Tree.{Server, server_numbered, left_of, right_of}, declared.server.Sides.Sides}

-- the sides of a server that is no leaf
abbrev pub sides_of : Server → Sides
sides_of top = record {
  left = server_numbered top.levels (left_of top.number);
  right = server_numbered top.levels (right_of top.number);
}

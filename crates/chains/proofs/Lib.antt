mod Chaining
